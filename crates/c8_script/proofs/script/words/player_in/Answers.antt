-- A single digit from 1 to 4 is the word of the player with that number.
use Rattle.std.proofs.Common.{refl, sym}
use Rattle.c8_script.proofs.ScriptLemmas.{player_of_digit}
use Rattle.c8_script.proofs.script.words.player_in.Goals as goal

pub returns-in-49-to-52 : goal.returns-in-49-to-52
returns-in-49-to-52 c = sym (player_of_digit c.args.word.now _ c.in-49-to-52.len_at_least c.in-49-to-52.len_below refl)
