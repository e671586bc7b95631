-- A capital letter means the key of the small one, and a character beyond one byte means none.
use Rattle.std.proofs.Common.{◌≡◌, ◌≤◌, ap, sym, ◌∙◌, arith}
use Rattle.c8_terminal.specs.Keyboard.{key_in, key_of, places, small}
use Rattle.c8_terminal.proofs.KeyboardLemmas.{no_key_past}
use Rattle.c8_terminal.proofs.keyboard.key_of.Goals as goal

pub returns-in-Ok : goal.returns-in-Ok
unfolding key_of
returns-in-Ok c = let same : c.in-Ok.character ≡ small c.args.character = grind arith in c.key_at.ensures ∙ ap (key_in places) same

pub returns-in-Err : goal.returns-in-Err
unfolding key_of
returns-in-Err c = let past : 256 ≤ small c.args.character = grind arith in sym (no_key_past (small c.args.character) past)
