-- A single digit, 5 or 6, is the word of the watcher in that seat.
use Rattle.std.proofs.Common.{refl, sym}
use Rattle.c8_script.proofs.ScriptLemmas.{watcher_of_digit}
use Rattle.c8_script.proofs.script.words.watcher_in.Goals as goal

pub returns-in-53-to-54 : goal.returns-in-53-to-54
returns-in-53-to-54 c = sym (watcher_of_digit c.args.word.now _ c.in-53-to-54.len_at_least c.in-53-to-54.len_below refl)
