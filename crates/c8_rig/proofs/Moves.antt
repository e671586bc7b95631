-- Each step keeps the ether's rule.
use Rattle.std.proofs.Common.{◌≡◌, ◌≢◌, ◌⊎◌, ◌≤◌, ℕ, zero, suc, ◌+◌, List, [], ◌∷◌, ◌++◌, length, set, refl, sym, ap, ◌∙◌, subst, inl, inr}
use Rattle.std.proofs.Common.{⊎_elim, append-nil, arith}
use Rattle.std.specs.Prelude.{◌==◌}
use Rattle.std.proofs.lemmas.Bool.{eq-eqb, ne_eqb}
use Rattle.std.proofs.lemmas.List.Elements.{filter-append}
use mathlib.Core.Option.{some, some-injective, some-ne-none}
use lib.ListN.{get_elem?}
use Rattle.atomic_table.specs.Table.{Allows, Splits, Joins, opening, keeps}
use Rattle.atomic_table.proofs.Lists.{at_set, at_snoc}
use Rattle.c8_world.specs.World.{player_of}
use Rattle.c8_rig.specs.declared.views.View.{View}
use Rattle.c8_rig.specs.declared.views.View.TheVariants.{Keeper, Own, Both, Spent}
use Rattle.c8_rig.specs.Log.{NoteValue, part_of}
use Rattle.c8_rig.specs.checked.Rule.{Fits, Owns, Keeps, Compares}

-- ---- parts of a longer log

pub part_with : (note : NoteValue) (log : List NoteValue)
    → part_of (player_of note.act) (log ++ note ∷ []) ≡ part_of (player_of note.act) log ++ note ∷ []
part_with note log =
    filter-append (λ (n : NoteValue). player_of n.act == player_of note.act) log (note ∷ [])
    ∙ ap (λ (more : List NoteValue). part_of (player_of note.act) log ++ more) (rw (eq-eqb (player_of note.act) (player_of note.act) refl) refl)

pub part_without : (p : ℕ) (note : NoteValue) (log : List NoteValue) → player_of note.act ≢ p → part_of p (log ++ note ∷ []) ≡ part_of p log
part_without p note log apart =
    filter-append (λ (n : NoteValue). player_of n.act == p) log (note ∷ [])
    ∙ ap (λ (more : List NoteValue). part_of p log ++ more) (rw (ne_eqb (player_of note.act) p apart) refl) ∙ append-nil (part_of p log)

-- ---- views

abbrev AllFit : ℕ → List NoteValue → List View → Type 0
AllFit players log views = (seat : ℕ) (v : View) → get_elem? views seat ≡ some v → Fits players log seat v

abbrev AreAlone : List View → Type 0
AreAlone views = (p a b : ℕ) (v w : View) → get_elem? views a ≡ some v → get_elem? views b ≡ some w → Owns p v → Owns p w → a ≡ b

fit_set : (players : ℕ) (log : List NoteValue) (views : List View) (id : ℕ) (w : View)
    → ((seat : ℕ) (v : View) → seat ≢ id → get_elem? views seat ≡ some v → Fits players log seat v) → Fits players log id w
    → AllFit players log (set views id w)
fit_set players log views id w others mine seat v e =
    ⊎_elim
    (λ (x : (seat ≡ id) × (w ≡ v)). subst (λ (y : ℕ × View). Fits players log y.0 y.1) (λ i. (sym x.0 i, x.1 i)) mine)
    (λ (x : (seat ≢ id) × (get_elem? views seat ≡ some v)). others seat v x.0 x.1)
    (at_set views id seat w v e)

fit_snoc : (players : ℕ) (log : List NoteValue) (views : List View) (w : View) → AllFit players log views
    → ((seat : ℕ) → Fits players log seat w) → AllFit players log (views ++ w ∷ [])
fit_snoc players log views w others mine seat v e =
    ⊎_elim (λ (x : get_elem? views seat ≡ some v). others seat v x)
    (λ (x : w ≡ v). subst (λ (y : View). Fits players log seat y) x (mine seat)) (at_snoc views w v seat e)

-- the last of a list, or one before it
at_end : (views : List View) (w v : View) (seat : ℕ) → get_elem? (views ++ w ∷ []) seat ≡ some v
    → (get_elem? views seat ≡ some v) ⊎ ((seat ≡ length views) × (w ≡ v))
at_end [] w v zero e = inr (refl, some-injective w v e)
at_end [] w v (suc seat) e = absurd (some-ne-none v (sym e))
at_end (x ∷ views) w v zero e = inl e
at_end (x ∷ views) w v (suc seat) e = ⊎_elim (λ early. inl early) (λ late. inr (ap suc late.0, late.1)) (at_end views w v seat e)

no_owner : (p : ℕ) (v w : View) → w ≡ v → (Owns p w → ⊥) → Owns p v → ⊥
no_owner p v w same never owns = never (subst (λ (x : View). Owns p x) (sym same) owns)

-- a view that owns no more than the one it replaces
alone_set : (views : List View) (id : ℕ) (old w : View) → AreAlone views → get_elem? views id ≡ some old → ((p : ℕ) → Owns p w → Owns p old)
    → AreAlone (set views id w)
alone_set views id old w alone at no_more p a b v x here there owns also =
    ⊎_elim
    (λ (l : (a ≡ id) × (w ≡ v)). ⊎_elim
    (λ (r : (b ≡ id) × (w ≡ x)). l.0 ∙ sym r.0)
    (λ (r : (b ≢ id) × (get_elem? views b ≡ some x)). l.0
    ∙ alone p id b old x at r.1 (no_more p (subst (λ (y : View). Owns p y) (sym l.1) owns)) also)
    (at_set views id b w x there))
    (λ (l : (a ≢ id) × (get_elem? views a ≡ some v)). ⊎_elim
    (λ (r : (b ≡ id) × (w ≡ x)). alone p a id v old l.1 at owns (no_more p (subst (λ (y : View). Owns p y) (sym r.1) also)) ∙ sym r.0)
    (λ (r : (b ≢ id) × (get_elem? views b ≡ some x)). alone p a b v x l.1 r.1 owns also)
    (at_set views id b w x there))
    (at_set views id a w v here)

-- a view that owns what no other does
alone_snoc : (views : List View) (w : View) → AreAlone views → ((p a : ℕ) (v : View) → get_elem? views a ≡ some v → Owns p v → Owns p w → ⊥)
    → AreAlone (views ++ w ∷ [])
alone_snoc views w alone new p a b v x here there owns also =
    ⊎_elim
    (λ (l : get_elem? views a ≡ some v). ⊎_elim
    (λ (r : get_elem? views b ≡ some x). alone p a b v x l r owns also)
    (λ (r : (b ≡ length views) × (w ≡ x)). absurd (new p a v l owns (subst (λ (y : View). Owns p y) (sym r.1) also)))
    (at_end views w x b there))
    (λ (l : (a ≡ length views) × (w ≡ v)). ⊎_elim
    (λ (r : get_elem? views b ≡ some x). absurd (new p b x r also (subst (λ (y : View). Owns p y) (sym l.1) owns)))
    (λ (r : (b ≡ length views) × (w ≡ x)). l.0 ∙ sym r.0)
    (at_end views w x b there))
    (at_end views w v a here)

-- a note changes only the views of the keeper and of its player
others_fit : (players : ℕ) (log : List NoteValue) (note : NoteValue) (seat : ℕ) (v : View) → seat ≢ 0 → (Owns (player_of note.act) v → ⊥)
    → Fits players log seat v → Fits players (log ++ note ∷ []) seat v
others_fit players log note seat (Keeper n all) apart other fits = absurd (apart fits.0)
others_fit players log note seat (Both n all p own) apart other fits = absurd (apart fits.0)
others_fit players log note seat (Own p own) apart other fits = (fits.0, fits.1 ∙ sym (part_without p note log (λ e. other (sym e))))
others_fit players log note seat Spent apart other fits = tt

-- the player of an own list has an entry
within : (players : ℕ) (log : List NoteValue) (seat : ℕ) (v : View) (p : ℕ) → Fits players log seat v → Owns p v → p ≤ players
within players log seat (Keeper n all) p fits owns = absurd owns
within players log seat (Own q own) p fits owns = subst (λ (x : ℕ). x ≤ players) owns fits.0
within players log seat (Both n all q own) p fits owns = subst (λ (x : ℕ). x ≤ players) owns fits.3
within players log seat Spent p fits owns = absurd owns

more_fit : (players : ℕ) (log : List NoteValue) (seat : ℕ) (v : View) → seat ≢ 0 → Fits players log seat v → Fits (players + 1) log seat v
more_fit players log seat (Keeper n all) apart fits = absurd (apart fits.0)
more_fit players log seat (Own p own) apart fits = (let few = fits.0 in omega (arith, few), fits.1)
more_fit players log seat (Both n all p own) apart fits = absurd (apart fits.0)
more_fit players log seat Spent apart fits = tt

-- an own list moves to the keeper's seat
alone_pair : (views : List View) (id other : ℕ) (n : ℕ) (all : List NoteValue) (p : ℕ) (own : List NoteValue) → AreAlone views
    → get_elem? views other ≡ some (Own p own) → AreAlone (set (set views id (Both n all p own)) other Spent)
alone_pair views id other n all p own alone before q a b v w here there owns also =
    let split : (seat : ℕ) (x : View) → get_elem? (set (set views id (Both n all p own)) other Spent) seat ≡ some x → Owns q x
    → ((seat ≡ id) × (p ≡ q)) ⊎ ((seat ≢ other) × (get_elem? views seat ≡ some x)) = λ seat x e is. ⊎_elim
    (λ (t : (seat ≡ other) × (Spent ≡ x)). absurd (no_owner q x Spent t.1 (λ never. never) is))
    (λ (t : (seat ≢ other) × (get_elem? (set views id (Both n all p own)) seat ≡ some x)). ⊎_elim
    (λ (u : (seat ≡ id) × (Both n all p own ≡ x)). inl (u.0, subst (λ (y : View). Owns q y) (sym u.1) is))
    (λ (u : (seat ≢ id) × (get_elem? views seat ≡ some x)). inr (t.0, u.1))
    (at_set views id seat (Both n all p own) x t.1))
    (at_set (set views id (Both n all p own)) other seat Spent x e) in
    ⊎_elim
    (λ (l : (a ≡ id) × (p ≡ q)). ⊎_elim
    (λ (r : (b ≡ id) × (p ≡ q)). l.0 ∙ sym r.0)
    (λ (r : (b ≢ other) × (get_elem? views b ≡ some w)). absurd (r.0 (alone q b other w (Own p own) r.1 before also l.1)))
    (split b w there also))
    (λ (l : (a ≢ other) × (get_elem? views a ≡ some v)). ⊎_elim
    (λ (r : (b ≡ id) × (p ≡ q)). absurd (l.0 (alone q a other v (Own p own) l.1 before owns r.1)))
    (λ (r : (b ≢ other) × (get_elem? views b ≡ some w)). alone q a b v w l.1 r.1 owns also)
    (split b w there also))
    (split a v here owns)

module _ {S : Type 0} where
  -- an ether begins with no players and an empty log
  pub begins_with : (words : List ℕ) (xs : List S) → Keeps (opening words xs (Keeper 0 []))
  begins_with words xs = record { players = 0; log = []; fits = one; alone = once; later = λ p more. refl }
    where
      one : AllFit 0 [] (Keeper 0 [] ∷ [])
      one zero v e = subst (λ (y : View). Fits 0 [] 0 y) (some-injective _ _ e) (refl, refl, refl)
      one (suc seat) v e = absurd (some-ne-none v (sym e))

      once : AreAlone (Keeper 0 [] ∷ [])
      once p zero b v w here there owns also = absurd (no_owner p v (Keeper 0 []) (some-injective _ _ here) (λ never. never) owns)
      once p (suc a) b v w here there owns also = absurd (some-ne-none v (sym here))

  -- the next player gets an entry
  pub enlists : (id n : ℕ) (all : List NoteValue) → Splits {S = S} Keeps id (Keeper n all) (Keeper (n + 1) all) (Own (n + 1) [])
  enlists id n all s k at =
      let mine = k.fits id (Keeper n all) at in
      let next : n + 1 ≡ k.players + 1 = ap (λ (x : ℕ). x + 1) mine.1 in
      record {
        players = k.players + 1;
        log = k.log;
        fits = fit_snoc (k.players + 1) k.log (set s.views id (Keeper (n + 1) all)) (Own (n + 1) [])
            (fit_set (k.players + 1) k.log s.views id (Keeper (n + 1) all)
            (λ seat v apart e. more_fit k.players k.log seat v (λ z. apart (z ∙ sym mine.0)) (k.fits seat v e)) (mine.0, next, mine.2))
            (λ seat. (omega (arith, next), sym (k.later (n + 1) (omega (arith, next)))));
        alone = alone_snoc (set s.views id (Keeper (n + 1) all)) (Own (n + 1) [])
            (alone_set s.views id (Keeper n all) (Keeper (n + 1) all) k.alone at (λ p never. never))
            (λ p a v e owns also. ⊎_elim
            (λ (x : (a ≡ id) × (Keeper (n + 1) all ≡ v)). no_owner p v (Keeper (n + 1) all) x.1 (λ never. never) owns)
            (λ (x : (a ≢ id) × (get_elem? s.views a ≡ some v)). let few = within k.players k.log a v p (k.fits a v x.1) owns in
            omega (arith, few, also, next))
            (at_set s.views id a (Keeper (n + 1) all) v e));
        later = λ p more. k.later p (omega (arith, more));
      }

  -- the keeper takes in the view of an entry
  pub joins : (id n : ℕ) (all : List NoteValue) (other p : ℕ) (own : List NoteValue)
      → Joins {S = S} Keeps id (Keeper n all) other (Own p own) (Both n all p own) Spent
  joins id n all other p own s k at apart there =
      let mine = k.fits id (Keeper n all) at in
      let before : get_elem? s.views other ≡ some (Own p own) = ⊎_elim
      (λ (t : (other ≡ id) × (Both n all p own ≡ Own p own)). absurd (apart t.0))
      (λ (t : (other ≢ id) × (get_elem? s.views other ≡ some (Own p own))). t.1)
      (at_set s.views id other (Both n all p own) (Own p own) there) in
      let theirs = k.fits other (Own p own) before in
      record {
        players = k.players;
        log = k.log;
        fits = fit_set k.players k.log (set s.views id (Both n all p own)) other Spent
            (λ seat v away e. fit_set k.players k.log s.views id (Both n all p own) (λ seat' v' _ e'. k.fits seat' v' e')
            (mine.0, mine.1, mine.2, theirs.0, theirs.1) seat v e)
            tt;
        alone = alone_pair s.views id other n all p own k.alone before;
        later = k.later;
      }

  -- keeper and entry are separate again
  pub parts : (id n : ℕ) (all : List NoteValue) (p : ℕ) (own : List NoteValue) → Splits {S = S} Keeps id (Both n all p own) (Keeper n all) (Own p own)
  parts id n all p own s k at =
      let mine = k.fits id (Both n all p own) at in
      record {
        players = k.players;
        log = k.log;
        fits = fit_snoc k.players k.log (set s.views id (Keeper n all)) (Own p own)
            (fit_set k.players k.log s.views id (Keeper n all) (λ seat v apart e. k.fits seat v e) (mine.0, mine.1, mine.2))
            (λ seat. (mine.3, mine.4));
        alone = alone_snoc (set s.views id (Keeper n all)) (Own p own)
            (alone_set s.views id (Both n all p own) (Keeper n all) k.alone at (λ q never. absurd never))
            (λ q a v e owns also. ⊎_elim
            (λ (x : (a ≡ id) × (Keeper n all ≡ v)). no_owner q v (Keeper n all) x.1 (λ never. never) owns)
            (λ (x : (a ≢ id) × (get_elem? s.views a ≡ some v)). x.0 (k.alone q a id v (Both n all p own) x.1 at owns also))
            (at_set s.views id a (Keeper n all) v e));
        later = k.later;
      }

  -- one more note of the player whose entry joined the keeper
  pub notes : (slots id n : ℕ) (all : List NoteValue) (p : ℕ) (own : List NoteValue) (note : NoteValue) → player_of note.act ≡ p
      → Allows {S = S} Keeps slots id (Both n all p own, []) 0 (λ word. word)
      (λ _ after. after ≡ (Both n (all ++ note ∷ []) p (own ++ note ∷ []), []))
  notes slots id n all p own note of s k homes at room =
      let mine = k.fits id (Both n all p own) at in
      let log : List NoteValue = k.log ++ note ∷ [] in
      let now : View = Both n (all ++ note ∷ []) p (own ++ note ∷ []) in
      let part : own ++ note ∷ [] ≡ part_of p log =
      ap (λ (notes : List NoteValue). notes ++ note ∷ []) mine.4
      ∙ subst (λ (q : ℕ). part_of q k.log ++ note ∷ [] ≡ part_of q log) of (sym (part_with note k.log)) in (
        now,
        keeps,
        tt,
        record {
          players = k.players;
          log = log;
          fits = fit_set k.players log s.views id now
              (λ seat v apart e. others_fit k.players k.log note seat v (λ z. apart (z ∙ sym mine.0))
              (λ owns. apart (k.alone p seat id v (Both n all p own) e at (subst (λ (q : ℕ). Owns q v) of owns) refl)) (k.fits seat v e))
              (mine.0, mine.1, ap (λ (notes : List NoteValue). notes ++ note ∷ []) mine.2, mine.3, part);
          alone = alone_set s.views id (Both n all p own) now k.alone at (λ q owns. owns);
          later = λ q more. part_without q note k.log (λ e. let few = mine.3 in omega (arith, more, few, of, e)) ∙ k.later q more;
        },
        refl,
      )

  -- the entry's part is its player's part of the log
  pub compares : (slots id n : ℕ) (all : List NoteValue) (p : ℕ) (own : List NoteValue)
      → Allows {S = S} Keeps slots id (Both n all p own, []) 0 (λ word. word) (Compares (Both n all p own, []))
  compares slots id n all p own s k homes at room =
      let mine = k.fits id (Both n all p own) at in (
        Both n all p own,
        keeps,
        tt,
        record {
          players = k.players;
          log = k.log;
          fits = fit_set k.players k.log s.views id (Both n all p own) (λ seat v apart e. k.fits seat v e) mine;
          alone = alone_set s.views id (Both n all p own) (Both n all p own) k.alone at (λ q owns. owns);
          later = k.later;
        },
        (refl, (subst (λ (x : ℕ). p ≤ x) (sym mine.1) mine.3, mine.4 ∙ ap (λ (log : List NoteValue). part_of p log) (sym mine.2))),
      )
