-- Both marks have 8 bytes, so they are unequal exactly if they differ in a byte.
use Rattle.std.proofs.Common.{◌∙◌, arith}
use Rattle.c8_peer.proofs.JudgingLemmas.{differ_is}
use Rattle.c8_peer.proofs.hearing.are_apart.Goals as goal

pub returns : goal.returns
returns c = c.ne.ensures ∙ differ_is c.args.own.now c.args.theirs.now (omega (arith, c.told-own, c.told-theirs))
