-- How the clauses of an ether see its tokens.
use Rattle.std.specs.Prelude.{◌≡◌, ℕ, List, [], ◌∷◌, ◌++◌, map}
use Rattle.std.specs.List.{range_with_len}
use Rattle.atomic_table.specs.Seated.{TableId}
use Rattle.c8_world.specs.World.{Act, Give}
use Rattle.c8_rig.specs.Log.{NoteValue}

-- The keeper: its ether, how many players have an entry, and the whole log.
pub record KeeperValue : Type 0 where
  pub ether : TableId
  pub players : ℕ
  pub log : List NoteValue

-- An entry: its ether, its player, and the notes of the player's peer.
pub record EntryValue : Type 0 where
  pub ether : TableId
  pub player : ℕ
  pub notes : List NoteValue

-- An ether: which one it is, and how many players it has.
pub record EtherValue : Type 0 where
  pub ether : TableId
  pub players : ℕ

-- the entries of this number of players, player 1's first, without notes
abbrev pub first_entries : TableId → ℕ → List EntryValue
first_entries ether players = map (λ p. record { ether = ether; player = p; notes = [] }) (range_with_len 1 players)

-- the entry with one more note
abbrev pub with_note : EntryValue → Act → List ℕ → EntryValue
with_note entry act bytes = record entry { notes = entry.notes ++ record { act = act; bytes = bytes } ∷ [] }

-- these bytes are delivered to the entry's player, under some number
abbrev pub IsDrawn : EntryValue → List ℕ → EntryValue → Type 0
IsDrawn old bytes new = (number : ℕ) × (new ≡ with_note old (Give number old.player) bytes)
