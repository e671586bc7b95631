-- What is added to some rows of a list is the rest of it, and a beginning of it stays one.
use Rattle.std.proofs.Common.{◌++◌, List, length, refl, ap, ◌∙◌}
use Rattle.std.proofs.lemmas.List.{drop_at}
use Rattle.c8_game.specs.declared.row.Row.{Row}
use Rattle.c8_cast.proofs.ChunkLemmas.{spells_grow}
use Rattle.c8_cast.proofs.laws.a_cast_follows_a_list_that_grows.Goals as goal

pub returns-clause-grown : goal.returns-clause-grown
returns-clause-grown c old more new is = is ∙ ap (λ (rest : List Row). old ++ rest) (drop_at old more (length old) refl)

pub returns-clause-longer : goal.returns-clause-longer
returns-clause-longer c = spells_grow
