-- A match whose players are threads.
use Rattle.std.specs.Prelude.{◌≡◌, ◌+◌, ◌-◌, ◌*◌, ℕ, List, ◌++◌, map, slice_index_or, Bool, true, Option, Some, IfSome, length}
use Rattle.c8_peer.specs.Runs.{never_opened}
use Rattle.std.specs.List.{slice_get}
use Rattle.atomic_table.specs.Seated.{TableId}
use Rattle.c8_game.specs.Rules.{Rules}
use Rattle.c8_disk.specs.declared.mem_disk.MemDisk.{MemDisk}
use Rattle.c8_disk.specs.contracts.mem_disk.MemDiskDisk.TheImpl.{ghosts}
use Rattle.c8_disk.specs.Memory.{value_of, new_value}
use Rattle.c8_peer.specs.State.{State}
use Rattle.c8_peer.specs.Peer.{PeerValue}
use Rattle.c8_peer.specs.TrueChecks.{HasTrueChecks}
use Rattle.c8_rig.specs.Log.{NoteValue, IsLawful, Leads, IsWorld, AreMoments, part_of}
use Rattle.c8_rig.specs.Tokens.{EntryValue}
use Rattle.c8_rig.specs.Players.{IsPeerOf, HasPlayedOn}
use Rattle.c8_rig.specs.Gathered.{HaveAgreedOrNot}
use Rattle.c8_rig.specs.declared.gathering.Gathering.{Gathering}
use Rattle.c8_rig.specs.declared.gathering.Gathering.TheVariants.{Gathered, Torn}

-- A player's disk for `turns` turns: new, with room for a record a turn, two more, and the last gate. It serves four
-- calls a turn and 16 more.
abbrev pub IsDiskFor : ℕ → MemDisk → Type 0
IsDiskFor turns disk = value_of disk ≡ new_value (144 * (turns + 2) + 1) (4 * turns + 16)

-- What a thread does to an entry without notes, on an empty disk. If the thread returns a peer, the entry's notes lead
-- to that peer, and the peer made their calls on this disk.
pub record HasWorked (rules : Rules) (disk : MemDisk) (before after : EntryValue) (peer : Option (PeerValue MemDisk)) : Type 0 where
  pub ether : after.ether ≡ before.ether
  pub player : after.player ≡ before.player
  pub plays : IfSome peer (λ q. IsPeerOf rules before.player q)
  pub led : IfSome peer (λ q. Leads rules 0 before.player never_opened after.notes q.state)
  pub played : IfSome peer (λ q. HasPlayedOn ghosts rules before.player disk after.notes q)

-- The calls of these notes made the peer, on a new disk.
pub record IsMadeBy (rules : Rules) (turns player : ℕ) (notes : List NoteValue) (q : PeerValue MemDisk) : Type 0 where
  pub disk : MemDisk
  pub new_disk : IsDiskFor turns disk
  pub played : HasPlayedOn ghosts rules player disk notes q

-- The thread of player i + 1 returned an entry and a peer. The notes lead to the peer, and their calls made it on a new
-- disk.
pub record IsPlayedAt (rules : Rules) (turns : ℕ) (ether : TableId) (entries : List EntryValue) (peers : List (PeerValue MemDisk))
    (i : ℕ) : Type 0 where
  pub entry : EntryValue
  pub there : slice_get entries i ≡ Some entry
  pub peer : PeerValue MemDisk
  pub peer_there : slice_get peers i ≡ Some peer
  pub ether_is : entry.ether ≡ ether
  pub player_is : entry.player ≡ i + 1
  pub plays : IsPeerOf rules (i + 1) peer
  pub led : Leads rules 0 (i + 1) never_opened entry.notes peer.state
  pub made : IsMadeBy rules turns (i + 1) entry.notes peer

-- the state of each player's peer, player 1's first
abbrev pub states_of : List (PeerValue MemDisk) → ℕ → State
states_of peers p = slice_index_or (map (λ (q : PeerValue MemDisk). q.state) peers) (p - 1) never_opened

-- The end of a match in threads.
--
-- - `size`, `plays`: there is a peer of each player of the game, player 1's first.
-- - `made`: each peer was made by the calls of its part of the log, on a new disk for `turns` turns; it blames the disk
--   only for a failure. It may have made other calls that change nothing. How many turns there were is not claimed.
-- - `lawful`, `world`: the log leads to a world with these peers.
-- - `moments`: any two moments of it agree.
-- - `checks`: the checkpoints of each peer's journal are true, so its machine is the serial run of its confirmed rows.
-- - `agrees`, `yes`: the answer says whether the peers agree, and it is yes.
pub record IsRiggedLog (rules : Rules) (turns : ℕ) (log : List NoteValue) (peers : List (PeerValue MemDisk)) (agree : Bool) : Type 0 where
  pub size : length peers ≡ rules.players
  pub plays : (i : ℕ) (q : PeerValue MemDisk) → slice_get peers i ≡ Some q → IsPeerOf rules (i + 1) q
  pub made : (i : ℕ) (q : PeerValue MemDisk) → slice_get peers i ≡ Some q → IsMadeBy rules turns (i + 1) (part_of (i + 1) log) q
  pub lawful : IsLawful rules.players log
  pub world : IsWorld rules 0 log (states_of peers)
  pub moments : (front between rest : List NoteValue) → log ≡ front ++ between ++ rest → AreMoments rules 0 front between rest (states_of peers)
  pub checks : (i : ℕ) (q : PeerValue MemDisk) → slice_get peers i ≡ Some q → HasTrueChecks rules (i + 1) q.state.journal
  pub agrees : HaveAgreedOrNot peers agree
  pub yes : agree ≡ true

abbrev pub IsRigged : Rules → ℕ → Gathering → Type 0
IsRigged rules turns (Gathered log peers agree) = IsRiggedLog rules turns log.items peers.items agree
IsRigged rules turns Torn = ⊥
