-- A read that ends before its limit has read everything: the image is all that the reader had.
use Rattle.std.proofs.Common.{◌≡◌, ◌<◌, ℕ, List, length, take, Option, None, Some, IfSome, option_map, ap, ◌∙◌, arith}
use Rattle.std.proofs.lemmas.List.{take_all, length-take}
use Rattle.c8_audit.proofs.image.image_of.Goals as goal

-- a read that returned fewer bytes than it could has read everything
all_taken : (known : Option (List ℕ)) (n : ℕ) (items : List ℕ) → IfSome (option_map (take n) known) (λ xs. items ≡ xs) → length items < n
    → IfSome known (λ bytes. items ≡ bytes)
all_taken None n items taken short = tt
all_taken (Some bytes) n items taken short = taken ∙ take_all n bytes (omega (arith, ap length taken, length-take n bytes))

pub returns-in-Ok-read_to_end-clause-whole : goal.returns-in-Ok-read_to_end-clause-whole
returns-in-Ok-read_to_end-clause-whole g c =
    all_taken (g.R.Read.remaining c.args.reader) 1073741825 c.read_to_end.new.buf.items
    (rw (c.take.ensures.limit, c.take.ensures.inner, c.in-Ok.ensures.items) at c.in-Ok-read_to_end.ensures.bytes)
    (omega (arith, c.read_to_end.new.buf.ok))
