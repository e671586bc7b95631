-- What the entries and the peers of all players become when a match ends.
use Rattle.std.specs.Prelude.{◌≡◌, ◌↔◌, ℕ, ◌+◌, List, length, map, true, Bool, Some}
use Rattle.std.specs.List.{slice_get}
use Rattle.atomic_table.specs.Seated.{TableId}
use Rattle.c8_disk.specs.declared.mem_disk.MemDisk.{MemDisk}
use Rattle.c8_peer.specs.Peer.{PeerValue, known_by}
use Rattle.c8_world.specs.declared.ends.Standing.{Standing}
use Rattle.c8_world.specs.Ends.{known_at, HaveAgreed}
use Rattle.c8_rig.specs.Log.{NoteValue, IsLawful, part_of}
use Rattle.c8_rig.specs.Tokens.{EntryValue}
use Rattle.c8_rig.specs.declared.gathering.Gathering.{Gathering}
use Rattle.c8_rig.specs.declared.gathering.Gathering.TheVariants.{Gathered, Torn}

-- the entries of all players of an ether, player 1's first
abbrev pub AreAll : TableId → ℕ → List EntryValue → Type 0
AreAll ether players entries =
    (length entries ≡ players) × ((i : ℕ) (e : EntryValue) → slice_get entries i ≡ Some e → (e.ether ≡ ether) × (e.player ≡ i + 1))

-- each entry's notes are its player's part of the log
abbrev pub AreParts : List NoteValue → List EntryValue → Type 0
AreParts log entries = (i : ℕ) (e : EntryValue) → slice_get entries i ≡ Some e → e.notes ≡ part_of e.player log

-- Whether the peers of all players agree, player 1's first, by what each of them knows.
abbrev pub HaveAgreedOrNot : {D : Type 0} → List (PeerValue D) → Bool → Type 0
HaveAgreedOrNot {D} peers agree = (standings : List Standing) × (map known_at standings ≡ map known_by peers)
    × ((agree ≡ true) ↔ HaveAgreed standings)

-- The log is lawful, each entry's notes are its player's part of it, the peers are these, and `agree` says whether they
-- agree.
abbrev pub IsGathering : ℕ → List EntryValue → List (PeerValue MemDisk) → Gathering → Type 0
IsGathering players entries peers (Gathered log held agree) =
    IsLawful players log.items × AreParts log.items entries × (held.items ≡ peers) × HaveAgreedOrNot peers agree
IsGathering players entries peers Torn = ⊥
