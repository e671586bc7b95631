-- What journals that were read make known.
use Rattle.std.specs.Prelude.{ℕ, ◌≡◌, ◌-◌, List, Option, Some, None}
use Rattle.std.specs.List.{slice_get}
use Rattle.c8_record.specs.Seen.{value_of}
use Rattle.c8_game.specs.Rules.{Rules}
use Rattle.c8_audit.specs.Journal.{IsJournalOf}
use Rattle.c8_known.specs.Growth.{Begins}
use Rattle.c8_known.specs.Known.{KnownValue}
use Rattle.c8_log.specs.Slots.{kept}
use Rattle.c8_audit.specs.Journals.{Seen, AllSeen}
use Rattle.c8_audit.specs.declared.journal.Journal.{Journal}
use Rattle.c8_audit.specs.declared.journal.Named.{Named}

-- the second reading of a file makes known what the first one does, if it is None
abbrev pub later_of : KnownValue → Option KnownValue → KnownValue
later_of first None = first
later_of first (Some later) = later

-- what the second reading of a file makes known: None if its bytes are those of the first
abbrev pub IsLater : Rules → ℕ → List ℕ → List ℕ → Option KnownValue → Type 0
IsLater rules room first later None = first ≡ later
IsLater rules room first later (Some known) = IsJournalOf rules (Some room) (kept later) known × Begins (kept first) (kept later)

abbrev pub seen : Journal → Seen
seen j = record { first = j.first; later = later_of j.first j.later; last = (value_of j.checks).last }

abbrev pub seen_at : Option (Option Journal) → Option Seen
seen_at None = None
seen_at (Some None) = None
seen_at (Some (Some j)) = Some (seen j)

-- player 1's journal is at place 0
abbrev pub all_seen : List (Option Journal) → AllSeen
all_seen journals p = seen_at (slice_get journals (p - 1))

abbrev pub named_at : Option (Option Journal) → Option Named
named_at None = None
named_at (Some None) = None
named_at (Some (Some j)) = Some j.named

-- the file of a player's journal, and what its HEAD names
abbrev pub all_named : List (Option Journal) → ℕ → Option Named
all_named journals p = named_at (slice_get journals (p - 1))
