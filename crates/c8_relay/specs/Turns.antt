-- What a turn does with the next packet.
use Rattle.std.specs.Prelude.{◌≡◌, ◌⊎◌, ℕ, List, [], ◌∷◌, ◌++◌}
use Rattle.c8_relay.specs.Ether.{MaySend}
use Rattle.c8_relay.specs.Reading.{IsDatagram}
use Rattle.c8_relay.specs.Seating.{IsServed}
use Rattle.c8_relay.specs.Standing.{Standing, IsFair}
use Rattle.c8_relay.specs.declared.address.Address.{Address}
use Rattle.c8_relay.specs.declared.control.Route.{Route}
use Rattle.c8_relay.specs.declared.relay.Fate.{Fate}
use Rattle.c8_relay.specs.declared.relay.Fate.TheVariants as fates
use Rattle.c8_relay.specs.declared.turning.Turned.{Turned}
use Rattle.c8_relay.specs.declared.turning.Turned.TheVariants as reports

-- what is sent, by what becomes of a packet: it goes on as it is, its sender gets an answer, or nothing is sent; and what the turn reports
abbrev pub IsDone : Fate → Address → List ℕ → List (Address × List ℕ) → List (Address × List ℕ) → Turned → Type 0
IsDone (fates.Forward to) from packet before after report = MaySend before to packet after × (report ≡ reports.Carried)
IsDone (fates.Answer answer) from packet before after report = MaySend before from answer after × (report ≡ reports.Answered)
IsDone (fates.Dropped cause) from packet before after report = (after ≡ before) × (report ≡ reports.Dropped cause)

-- a datagram that is to be carried goes to who listens
abbrev pub Carries : ℕ → Address → List ℕ → Standing → Fate → Type 0
Carries now from packet old fate =
    (route : Route) (to : Address) → IsDatagram packet route → IsServed now old.members from route to → fate ≡ fates.Forward to

-- A packet was taken, and done with by what it is.
pub record IsTaken (now : ℕ) (old new : Standing) (gave given before after : List (Address × List ℕ)) (report : Turned) : Type 0 where
  pub from : Address
  pub packet : List ℕ
  pub fate : Fate
  pub taken : given ≡ gave ++ (from, packet) ∷ []
  pub fair : IsFair now from packet old new fate
  pub carries : Carries now from packet old fate
  pub done : IsDone fate from packet before after report

-- what the ether gave grew by one packet, which was done with; or it gave none, and nothing happens
abbrev pub IsTurn : ℕ → (old new : Standing) → (gave given before after : List (Address × List ℕ)) → Turned → Type 0
IsTurn now old new gave given before after report =
    ((given ≡ gave) × (after ≡ before) × (new ≡ old) × (report ≡ reports.Idle)) ⊎ IsTaken now old new gave given before after report
