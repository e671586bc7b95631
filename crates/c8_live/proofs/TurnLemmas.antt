-- How the parts of a turn join.
use Rattle.std.proofs.Common.{◌≡◌, ◌≤◌, inl, inr, ℕ, suc, List, [], ◌∷◌, ◌++◌, Option, Some, Ok, refl, sym, ap, subst, ◌+◌, ◌∙◌, arith}
use Rattle.std.proofs.Common.{append-nil, append_assoc}
use Rattle.std.proofs.lemmas.List.{length-append}
use Rattle.std.proofs.lemmas.List.Elements.{All-nil, All-cons}
use Rattle.c8_disk.specs.declared.disk.Disk.{Ghosts as DiskGhosts}
use Rattle.c8_peer.specs.State.{Call, Reply, Said}
use Rattle.c8_peer.specs.Steps.{DiskOutcome, Works}
use Rattle.c8_peer.specs.Peer.{PeerValue, IsSaid}
use Rattle.c8_peer.specs.Runs.{Does, IsDone}
use Rattle.c8_transport.specs.declared.wire.Wire.{Ghosts as WireGhosts}
use Rattle.c8_session.specs.Runs.{HasRunOn}
use Rattle.c8_transport.specs.Wire.{MayTake, most_packets}
use Rattle.c8_session.specs.Turns.{Hears, Ticks, Speaks, doing, HasCalledOnce, HasTurned}
use Rattle.c8_session.specs.checked.Joins.{RunsJoin, joined, says, done_still, done_joined, turned_ran}
use Rattle.c8_live.specs.Turns.{AreDeliveriesOf, HasHeardOf, HasHeard, WereSaid, HasSpoken, IsTurn, AreTurns}

-- ---- what was heard

-- deliveries of some packets are deliveries of one more
heard_after : (given : List (List ℕ)) (calls : List (Call × DiskOutcome)) (bytes : List ℕ) → AreDeliveriesOf given calls
    → AreDeliveriesOf (bytes ∷ given) calls
heard_after given [] bytes heard = tt
heard_after given (call ∷ calls) bytes heard = inr heard

heard_of_more : (given more : List (List ℕ)) (calls : List (Call × DiskOutcome)) → AreDeliveriesOf more calls → AreDeliveriesOf (given ++ more) calls
heard_of_more [] more calls heard = heard
heard_of_more (bytes ∷ given) more calls heard = heard_after (given ++ more) calls bytes (heard_of_more given more calls heard)

pub heard_append : (given more : List (List ℕ)) (calls others : List (Call × DiskOutcome)) → AreDeliveriesOf given calls
    → AreDeliveriesOf more others → AreDeliveriesOf (given ++ more) (calls ++ others)
heard_append given more [] others heard rest = heard_of_more given more others rest
heard_append [] more (call ∷ calls) others heard rest = absurd heard
heard_append (bytes ∷ given) more (call ∷ calls) others (inl (delivers, heard)) rest = inl (delivers, heard_append given more calls others heard rest)
heard_append (bytes ∷ given) more (call ∷ calls) others (inr heard) rest = inr (heard_append given more (call ∷ calls) others heard rest)

module _ {D W : Type 0} (disk : DiskGhosts D) (wire : WireGhosts W) where
  abbrev pub heard_none : (p : PeerValue D) (before after : W) → wire.received after ≡ wire.received before
      → wire.sent after ≡ wire.sent before → HasHeard disk wire 0 p p before after
  heard_none p before after same sent = record {
    given = [];
    received = same ∙ sym (append-nil (wire.received before));
    few = omega arith;
    heard = (done_still disk Hears p, tt);
    sent = sent;
  }

  abbrev pub heard_given : (old new : PeerValue D) (before after : W) (bytes : List ℕ) → HasHeardOf disk (bytes ∷ []) old new
      → wire.received after ≡ wire.received before ++ bytes ∷ [] → wire.sent after ≡ wire.sent before → HasHeard disk wire 1 old new before after
  heard_given old new before after bytes heard received sent =
      record { given = bytes ∷ []; received = received; few = omega arith; heard = heard; sent = sent }

  abbrev pub heard_up_to : (few most : ℕ) (old new : PeerValue D) (before after : W) → few ≤ most
      → HasHeard disk wire few old new before after → HasHeard disk wire most old new before after
  heard_up_to few most old new before after within heard =
      record { given = heard.given; received = heard.received; few = omega (arith, heard.few, within); heard = heard.heard; sent = heard.sent }

  abbrev pub heard_joined : RunsJoin → (most more : ℕ) (first middle last : PeerValue D) (before between after : W)
      → HasHeard disk wire most first middle before between
      → HasHeard disk wire more middle last between after → HasHeard disk wire (most + more) first last before after
  heard_joined join most more first middle last before between after one two =
      let counted = length-append one.given two.given in
      record {
        given = one.given ++ two.given;
        received = two.received ∙ ap (λ (l : List (List ℕ)). l ++ two.given) one.received ∙ append_assoc (wire.received before) one.given two.given;
        few = omega (arith, counted, one.few, two.few);
        heard = (
          done_joined disk join Hears first middle last one.heard.0 two.heard.0,
          heard_append one.given two.given one.heard.0.ran.calls two.heard.0.ran.calls one.heard.1 two.heard.1,
        );
        sent = two.sent ∙ one.sent;
      }

-- ---- what was said

-- with one more answer in front
skip : (bytes : List (List ℕ)) (answer : Option Reply) (answers : List (Option Reply)) → WereSaid bytes answers → WereSaid bytes (answer ∷ answers)
skip [] answer answers said = tt
skip (one ∷ bytes) answer answers said = inr said

pub said_append : (bytes more : List (List ℕ)) (answers others : List (Option Reply)) → WereSaid bytes answers → WereSaid more others
    → WereSaid (bytes ++ more) (answers ++ others)
said_append [] more [] others said rest = rest
said_append [] more (answer ∷ answers) others said rest = skip more answer (answers ++ others) (said_append [] more answers others tt rest)
said_append (one ∷ bytes) more [] others said rest = absurd said
said_append (one ∷ bytes) more (answer ∷ answers) others (inl (spells, said)) rest = inl (spells, said_append bytes more answers others said rest)
said_append (one ∷ bytes) more (answer ∷ answers) others (inr said) rest = inr (said_append (one ∷ bytes) more answers others said rest)

module _ {D W : Type 0} (disk : DiskGhosts D) (wire : WireGhosts W) where
  abbrev pub spoken_still : (p : PeerValue D) (before after : W) → wire.sent after ≡ wire.sent before
      → wire.received after ≡ wire.received before → HasSpoken disk wire p before after
  spoken_still p before after same received =
      record { done = done_still disk Speaks p; taken = []; sent = same ∙ sym (append-nil (wire.sent before)); said = tt; received = received }

  abbrev pub spoken_joined : RunsJoin → (p : PeerValue D) (before between after : W) → HasSpoken disk wire p before between
      → HasSpoken disk wire p between after → HasSpoken disk wire p before after
  spoken_joined join p before between after one two = record {
    done = done_joined disk join Speaks p p p one.done two.done;
    taken = one.taken ++ two.taken;
    sent = two.sent ∙ ap (λ (l : List (List ℕ)). l ++ two.taken) one.sent ∙ append_assoc (wire.sent before) one.taken two.taken;
    said = said_append one.taken two.taken one.done.ran.answers two.done.ran.answers one.said two.said;
    received = two.received ∙ one.received;
  }

  abbrev pub spoken_once : (p : PeerValue D) (before after : W) (call : Call) (bytes : List ℕ) → doing call ≡ Speaks → (is : IsSaid p call bytes)
      → IsDone p.rules p.room p.me p.state (Does call Works) (Some (Said (Ok is.packet))) p.state → MayTake (wire.sent before) bytes (wire.sent after)
      → wire.received after ≡ wire.received before → HasSpoken disk wire p before after
  spoken_once p before after call bytes speaks is deed (inl lost) received = record {
    done = record {
      ran = says disk p call (Said (Ok is.packet)) deed;
      alike = All-cons (λ (c : Call × DiskOutcome). doing c.0 ≡ Speaks) (call, Works) [] speaks
          (All-nil (λ (c : Call × DiskOutcome). doing c.0 ≡ Speaks));
    };
    taken = [];
    sent = lost ∙ sym (append-nil (wire.sent before));
    said = tt;
    received = received;
  }
  spoken_once p before after call bytes speaks is deed (inr took) received = record {
    done = record {
      ran = says disk p call (Said (Ok is.packet)) deed;
      alike = All-cons (λ (c : Call × DiskOutcome). doing c.0 ≡ Speaks) (call, Works) [] speaks
          (All-nil (λ (c : Call × DiskOutcome). doing c.0 ≡ Speaks));
    };
    taken = bytes ∷ [];
    sent = took;
    said = inl ((is.packet, refl, is.spelled), tt);
    received = received;
  }

  -- ---- turns

  abbrev pub turn_of : (old heard ticked new : PeerValue D) (before between after : W)
      → HasHeard disk wire most_packets old heard before between → HasCalledOnce disk Ticks heard ticked → HasTurned disk ticked new
      → HasSpoken disk wire new between after → IsTurn disk wire old new before after
  turn_of old heard ticked new before between after hears ticks turns speaks = record {
    heard = heard;
    ticked = ticked;
    between = between;
    hears = hears;
    ticks = ticks;
    turns = turns;
    speaks = speaks;
  }

  pub turn_ran : RunsJoin → (old new : PeerValue D) (before after : W) → IsTurn disk wire old new before after → HasRunOn disk old new
  turn_ran join old new before after turn =
      joined disk join old turn.heard new turn.hears.heard.0.ran
      (joined disk join turn.heard turn.ticked new turn.ticks.0.done.ran
      (joined disk join turn.ticked new new (turned_ran disk join turn.ticked new turn.turns) turn.speaks.done.ran))

  pub turns_more : (n : ℕ) (old middle new : PeerValue D) (before between after : W) → AreTurns disk wire n old middle before between
      → IsTurn disk wire middle new between after
      → AreTurns disk wire (n + 1) old new before after
  turns_more n old middle new before between after turns turn =
      let more : suc n ≡ n + 1 = omega arith in
      subst (λ (m : ℕ). AreTurns disk wire m old new before after) more (middle, between, turns, turn)
