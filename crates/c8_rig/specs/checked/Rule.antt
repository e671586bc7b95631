-- Checked, not believed: what a log's keeper and the owners of its parts know of each other, whatever the threads do.
use Rattle.std.specs.Prelude.{◌≡◌, ℕ, ◌+◌, ◌<◌, ◌≤◌, List, [], ◌∷◌, ◌++◌}
use mathlib.Core.Option.{some}
use lib.ListN.{get_elem?}
use Rattle.atomic_table.specs.Table.{State, Me}
use Rattle.c8_rig.specs.declared.views.View.{View}
use Rattle.c8_rig.specs.declared.views.View.TheVariants.{Keeper, Own, Both, Spent}
use Rattle.c8_rig.specs.Log.{NoteValue, part_of}

-- The first seat is the keeper's: it has the number of players with an entry, and the whole log. Each own list is its
-- player's part of the log.
abbrev pub Fits : ℕ → List NoteValue → ℕ → View → Type 0
Fits players log seat (Keeper n all) = (seat ≡ 0) × (n ≡ players) × (all ≡ log)
Fits players log seat (Own p own) = (p ≤ players) × (own ≡ part_of p log)
Fits players log seat (Both n all p own) = (seat ≡ 0) × (n ≡ players) × (all ≡ log) × (p ≤ players) × (own ≡ part_of p log)
Fits players log seat Spent = Unit

-- whose list a view owns
abbrev pub Owns : ℕ → View → Type 0
Owns p (Keeper n all) = ⊥
Owns p (Own q own) = q ≡ p
Owns p (Both n all q own) = q ≡ p
Owns p Spent = ⊥

-- The rule: there is one log. Each view fits it, each list has one owner, and a player without an entry has no notes.
pub record Keeps {S : Type 0} (s : State S View) : Type 0 where
  pub players : ℕ
  pub log : List NoteValue
  pub fits : (seat : ℕ) (v : View) → get_elem? s.views seat ≡ some v → Fits players log seat v
  pub alone : (p a b : ℕ) (v w : View) → get_elem? s.views a ≡ some v → get_elem? s.views b ≡ some w → Owns p v → Owns p w → a ≡ b
  pub later : (p : ℕ) → players < p → part_of p log ≡ []

-- ---- the steps: what they do to a view

-- one more player gets an entry
abbrev pub with_player : View → View
with_player (Keeper n all) = Keeper (n + 1) all
with_player (Own p own) = Own p own
with_player (Both n all p own) = Both n all p own
with_player Spent = Spent

abbrev pub new_entry : View → View
new_entry (Keeper n all) = Own (n + 1) []
new_entry (Own p own) = Spent
new_entry (Both n all p own) = Spent
new_entry Spent = Spent

-- the keeper with an entry's view beside its own, and each alone again
abbrev pub both : View → View → View
both (Keeper n all) (Own p own) = Both n all p own
both v w = v

abbrev pub keeper_of : View → View
keeper_of (Both n all p own) = Keeper n all
keeper_of v = v

abbrev pub entry_of : View → View
entry_of (Both n all p own) = Own p own
entry_of v = Spent

-- one more note
abbrev pub noted : NoteValue → View → View
noted note (Both n all p own) = Both n (all ++ note ∷ []) p (own ++ note ∷ [])
noted note (Keeper n all) = Keeper n all
noted note (Own p own) = Own p own
noted note Spent = Spent

-- what keeper and entry show while they are joined
abbrev pub TellsPart : View → Type 0
TellsPart (Both n all p own) = (p ≤ n) × (own ≡ part_of p all)
TellsPart (Keeper n all) = Unit
TellsPart (Own p own) = Unit
TellsPart Spent = Unit

abbrev pub Compares : {S : Type 0} → Me S View → ℕ → Me S View → Type 0
Compares {S} before found after = (after ≡ before) × TellsPart before.0
