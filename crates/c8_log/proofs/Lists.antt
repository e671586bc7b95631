-- What an append adds to the lists of bodies that a crash may have left.
use Rattle.std.proofs.Common.{◌≤◌, ℕ, List, [], ◌∷◌, ◌++◌, Contains, ⊎_elim, sym, subst}
use Rattle.std.proofs.lemmas.List.Elements.{Contains-append_left, Contains-push}
use Rattle.c8_disk.specs.Runs.{LeavesOnly}
use Rattle.c8_disk.specs.declared.disk.Disk.{Ghosts}
use Rattle.c8_log.specs.Slots.{kept}
use Rattle.c8_log.specs.Log.{KeepsWithOrWithout, SinceKeeps}

pub one_list_more : {D : Type 0} (g : Ghosts D) (old new : D) (t : ℕ) (lists : List (List (List ℕ))) (bodies : List (List ℕ)) (body : List ℕ)
    → t ≤ g.moment old → Contains lists bodies → SinceKeeps g old t lists → LeavesOnly g old new (KeepsWithOrWithout bodies body)
    → SinceKeeps g new t (lists ++ (bodies ++ body ∷ []) ∷ [])
one_list_more g old new t lists bodies body le there so_far run image left =
    let added = bodies ++ body ∷ [] in
    let here : (some : List (List ℕ)) → Contains lists some → Contains (lists ++ added ∷ []) some =
    λ some. Contains-append_left lists (added ∷ []) some in
    ⊎_elim
    (λ past. here (kept image) (so_far image past))
    (⊎_elim (λ without. subst (Contains (lists ++ added ∷ [])) (sym without) (here bodies there))
    (λ with_it. subst (Contains (lists ++ added ∷ [])) (sym with_it) (Contains-push lists added)))
    (run.before t image le left)
