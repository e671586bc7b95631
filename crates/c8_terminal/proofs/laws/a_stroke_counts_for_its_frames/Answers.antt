-- What is left of a stroke falls by one each frame: from its hold, or from at least 6 if it is a repeat.
use Rattle.c8_terminal.proofs.StrokeLemmas.{first_stroke, repeated_stroke}
use Rattle.c8_terminal.proofs.laws.a_stroke_counts_for_its_frames.Goals as goal

pub returns-clause-first : goal.returns-clause-first
returns-clause-first c = first_stroke

pub returns-clause-repeated : goal.returns-clause-repeated
returns-clause-repeated c = repeated_stroke
