-- Two rows are equal exactly if all their key sets have equal numbers.
use Rattle.std.proofs.Common.{ℕ, List, ap}
use Rattle.std.proofs.lemmas.Slice.Eq.{slice_eq-Decides}
use Rattle.std.proofs.lemmas.Bool.Decides.{Decides-eqb}
use Rattle.c8_game.specs.declared.row.Keys.{Keys}
use Rattle.c8_game.specs.declared.row.Row.{Row}
use Rattle.c8_game.proofs.row.Row.is_same.Goals as goal

pub returns : goal.returns
returns c =
    let decides = slice_eq-Decides (λ (a b : Keys).
    (λ is. ap (λ (n : ℕ). record { 0 = n }) ((Decides-eqb a.0 b.0).0 is), λ same. (Decides-eqb a.0 b.0).1 (ap (λ (k : Keys). k.0) same)))
    c.args.self.now.sets c.args.other.now.sets c.eq.result c.eq.ensures in
    (λ is. ap (λ (sets : List Keys). record { sets = sets }) (decides.0 is), λ same. decides.1 (ap (λ (r : Row). r.sets) same))
