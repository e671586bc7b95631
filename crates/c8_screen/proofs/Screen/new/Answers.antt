-- Rows of zeros have no lit point.
use Rattle.c8_screen.proofs.PointLemmas.{points_of-dark}
use Rattle.c8_screen.proofs.Screen.new.Goals as goal

pub returns : goal.returns
returns c = points_of-dark
