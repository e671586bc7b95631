-- Checked, not believed: how clauses see a token.
use Rattle.std.specs.Prelude.{◌≡◌, ℕ, List, [], Option, Some, None}
use Rattle.atomic_table.specs.Table.{Me}
use Rattle.atomic_table.specs.Seated.{TableId}
use Rattle.c8_rig.specs.declared.views.View.{View}
use Rattle.c8_rig.specs.declared.views.View.TheVariants.{Keeper, Own, Both, Spent}
use Rattle.c8_rig.specs.Log.{NoteValue}
use Rattle.c8_rig.specs.Tokens.{KeeperValue, EntryValue}

-- the seat is the keeper's, an entry's, or that of both, and holds no slot
abbrev pub IsKeeper : {S : Type 0} → Me S View → Type 0
IsKeeper {S} me = (n : ℕ) × (all : List NoteValue) × (me ≡ (Keeper n all, []))

abbrev pub IsOwn : {S : Type 0} → Me S View → Type 0
IsOwn {S} me = (p : ℕ) × (own : List NoteValue) × (me ≡ (Own p own, []))

abbrev pub IsBoth : {S : Type 0} → Me S View → Type 0
IsBoth {S} me = (n : ℕ) × (all : List NoteValue) × (p : ℕ) × (own : List NoteValue) × (me ≡ (Both n all p own, []))

abbrev pub keeper_value : TableId → View → KeeperValue
keeper_value ether (Keeper n all) = record { ether = ether; players = n; log = all }
keeper_value ether (Both n all p own) = record { ether = ether; players = n; log = all }
keeper_value ether (Own p own) = record { ether = ether; players = 0; log = [] }
keeper_value ether Spent = record { ether = ether; players = 0; log = [] }

abbrev pub own_value : TableId → View → EntryValue
own_value ether (Own p own) = record { ether = ether; player = p; notes = own }
own_value ether (Both n all p own) = record { ether = ether; player = p; notes = own }
own_value ether (Keeper n all) = record { ether = ether; player = 0; notes = [] }
own_value ether Spent = record { ether = ether; player = 0; notes = [] }

-- the name of no ether
abbrev pub no_ether : TableId
no_ether = record { words = 0; slots = 0; views_name = 0; atom = 0; block = 0; offset = 0; slot_names = [] }

-- an entry by its player, the player's notes, and its part, which is always there
abbrev pub entry_value : ℕ → List NoteValue → Option EntryValue → EntryValue
entry_value player notes (Some part) = record { ether = part.ether; player = player; notes = notes }
entry_value player notes None = record { ether = no_ether; player = player; notes = notes }
