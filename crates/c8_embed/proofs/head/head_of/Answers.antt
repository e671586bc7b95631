-- The bytes that the disk lends are those of its file.
use Rattle.std.proofs.Common.{MatchOption, List, ℕ, subst}
use Rattle.c8_embed.specs.Head.{NamesHead, NamesNone}
use Rattle.c8_embed.specs.declared.head.Head.{Head}
use Rattle.c8_embed.proofs.head.head_of.Goals as goal

pub returns : goal.returns
returns c =
    subst (λ (bytes : List ℕ). MatchOption c.head_in.result (NamesNone bytes) (λ (head : Head). NamesHead bytes head.player.number head.room))
    c.in-Some.ensures.bytes c.head_in.ensures
