-- Where the word does not begin at a place, it stands in what is behind the place.
use Rattle.std.proofs.Common.{◌≡◌, ◌∙◌, ◌+◌, ◌||◌, ℕ, List, Bool, ap, arith, drop, nat_eq, suc, sym, false}
use Rattle.std.specs.List.{starts_with}
use Rattle.c8_relay_web.specs.Paths.{contains}
use Rattle.c8_relay_web.proofs.SiteLemmas.{from_place}
use Rattle.c8_relay_web.proofs.page.contains.Goals as goal

pub loop-place-preserved : goal.loop-place-preserved
loop-place-preserved c =
    let place = c.loop-place.place in
    let text = c.args.text.now in
    let word = c.args.word.now in
    let next : suc place ≡ place + 1 = omega arith in
    let rest : c.split_at.result.1.now ≡ drop place text = c.split_at.ensures.back in
    let no : starts_with nat_eq (drop place text) word ≡ false =
    ap (λ (bytes : List ℕ). starts_with nat_eq bytes word) (sym rest) ∙ sym c.if-starts_with.ensures.value in
    c.loop-place.invariant ∙ from_place text word place c.loop-place-test.true ∙ ap (λ (b : Bool). b || contains (drop (suc place) text) word) no
    ∙ ap (λ (n : ℕ). contains (drop n text) word) next
