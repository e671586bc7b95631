-- The rows so far are the first words, four each, and the words behind them are as they were.
use Rattle.std.proofs.Common.{◌≡◌, ◌*◌, ◌++◌, length, take, drop}
use Rattle.c8_engine.specs.Calls.{words_of}
use Rattle.c8_engine.proofs.stepping.write_rows.Given as goal

abbrev pub invariant-loop-place : goal.invariant-loop-place
invariant-loop-place l = record {
  words : l.words ≡ words_of (take l.place l.rows) ++ drop (4 * l.place) l.initial.words;
  long : length (words_of (take l.place l.rows)) ≡ 4 * l.place;
}
