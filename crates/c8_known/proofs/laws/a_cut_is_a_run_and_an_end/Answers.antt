-- A CUT with inputs says what a GOT of them and a bare CUT say, for c8_record's `make_known`.
use Rattle.c8_known.specs.checked.KnownLaws.{cut_in_two}
use Rattle.c8_known.proofs.laws.a_cut_is_a_run_and_an_end.Goals as goal

pub returns : goal.returns
returns c = cut_in_two
