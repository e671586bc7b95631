-- What follows from SHOWs that one peer said.
use Rattle.std.proofs.Common.{◌≡◌, ℕ, ◌<◌, ◌≤◌, ◌^◌, List, [], ◌∷◌, Option, Result, Ok, Err, refl, subst, arith}
use Rattle.c8_game.specs.Rules.{Rules, AreInRange}
use Rattle.c8_game.specs.declared.row.Row.{Row}
use Rattle.c8_known.specs.Growth.{Begins, Stands}
use Rattle.c8_known.specs.Known.{known_of}
use Rattle.c8_known.specs.Confirmed.{confirmed_rows}
use Rattle.c8_wire.specs.declared.error.WireError.{WireError}
use Rattle.c8_wire.specs.Packet.{ShowMessage, Message, Packet}
use Rattle.c8_wire.specs.Packet as packets
use Rattle.c8_wire.specs.checked.Read.{read}
use Rattle.c8_peer.specs.State.{State, Reply}
use Rattle.c8_peer.specs.Runs.{Deed, IsRun, IsAmong, never_opened}
use Rattle.c8_peer.specs.Truth.{IsTrue, IsTrueMessage}
use Rattle.c8_spectator.specs.Growth.{ShowsRowsOf}
use Rattle.c8_spectator.specs.Watching.{WatchValue, hear}
use Rattle.c8_watch.specs.Turns.{after_hearing}
use Rattle.c8_watch.specs.Shown.{ShowsWereSaid}

-- c8_spectator's law: rows shown from one list begin that list
abbrev pub BeginsIt : Type 0
BeginsIt = (truth : List Row) (w : WatchValue) (p : Packet) → Begins w.rows truth → ShowsRowsOf truth p → Begins (hear w (Ok p)).watch.rows truth

heard_one : BeginsIt → (truth : List Row) (w : WatchValue) (told : Result Packet WireError)
    → ((p : Packet) → told ≡ Ok p → ShowsRowsOf truth p) → Begins w.rows truth → Begins (hear w told).watch.rows truth
heard_one law truth w (Err error) shows begins = begins
heard_one law truth w (Ok p) shows begins = law truth w p begins (shows p refl)

-- the rows of a true SHOW of player 1 stand among the confirmed rows of its journal
shown_stands : (rules : Rules) (s : State) (p : Packet) (m : ShowMessage) → p.message ≡ packets.Show m → IsTrue rules 1 s.journal p
    → Stands m.start m.rows (confirmed_rows (known_of rules 1 s.journal))
shown_stands rules s p m is true_said = (subst (λ (message : Message). IsTrueMessage rules 1 p.head.to s.journal message) is true_said.message).1

pub shows_begin : BeginsIt → (rules : Rules) (s : State) (answers : List (Option Reply))
    → ((p : Packet) → IsAmong answers p → IsTrue rules 1 s.journal p) → (w : WatchValue) (given : List (List ℕ)) → ShowsWereSaid answers given
    → Begins w.rows (confirmed_rows (known_of rules 1 s.journal)) → Begins (after_hearing w given).rows (confirmed_rows (known_of rules 1 s.journal))
shows_begin law rules s answers said w [] shows begins = begins
shows_begin law rules s answers said w (bytes ∷ given) shows begins =
    shows_begin law rules s answers said (hear w (read bytes)).watch given shows.1
    (heard_one law (confirmed_rows (known_of rules 1 s.journal)) w (read bytes)
    (λ p is. record { stand = λ m shown. shown_stands rules s p m shown (said p (shows.0 p m is shown)) }) begins)
