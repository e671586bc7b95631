-- What holds for each world to which some list of events leads.
use Rattle.std.proofs.Common.{◌≡◌, ◌≢◌, ℕ, zero, suc, ◌<◌, ◌≤◌, ◌^◌, inl, inr, ⊎_elim, List, [], ◌∷◌, ◌++◌, length, take, true, false, None}
use Rattle.std.proofs.Common.{refl, sym, ap, subst, ◌∙◌, arith, Option, Some}
use Rattle.std.proofs.lemmas.Bool.{cases_eq, leb-true, and_parts, both_ways}
use Rattle.std.proofs.Math.Seq.{take-append_seam}
use Rattle.c8_game.specs.Rules.{Rules, AreInRange}
use Rattle.c8_game.specs.declared.row.Row.{Row}
use Rattle.c8_machine.specs.Serial.{serial}
use Rattle.c8_digest.specs.Origin.{Origin}
use Rattle.c8_roll.specs.Roll.{RollValue, roll_since, roll_of, IsOnTheWay}
use Rattle.c8_record.specs.Checks.{begun_at}
use Rattle.c8_wire.specs.Packet.{Packet, IsPacket}
use Rattle.c8_wire.specs.Spelling.{spelling, Spells}
use Rattle.c8_hand.specs.Links.{link_to, LinkValue, LinksValue}
use Rattle.c8_known.specs.Journal.{Record, held, had_epoch, has_freeze, has_leave}
use Rattle.c8_known.specs.Known.{known_of}
use Rattle.c8_known.specs.Known.{KnownValue}
use Rattle.c8_known.specs.Confirmed.{confirmed, rows_below, confirmed_rows}
use Rattle.c8_known.specs.Growth.{Begins}
use Rattle.c8_peer.specs.State.{State}
use Rattle.c8_peer.specs.Opening.{found, away}
use Rattle.c8_peer.specs.Truth.{IsTrue}
use Rattle.c8_peer.specs.TrueChecks.{HasTrueChecks}
use Rattle.c8_world.specs.checked.Below.{ArePeersLawful}
use Rattle.c8_world.specs.World.{World, start, peer_of, journal_of, known_by, rows_of, with_peer, Event, Answer, Chain, IsReached}
use Rattle.c8_world.specs.Agreement.{IsPlayer, IsUndropped, base_of, NobodyLeaves, AreSameUpTo, AgreeUpTo, Agree, AreEntered, IsBounded}
use Rattle.c8_world.specs.Agreement.{AreReports, HasFrozen, Reads, read_by, AgreeByReads, IsAmong, AreLinked, IsTrueSaid, IsTrueBy}
use Rattle.c8_world.specs.Agreement.{HasTrueRows}
use Rattle.c8_world.proofs.Journals.{AreSound, has_freeze_at, player_one}
use Rattle.c8_world.proofs.Moments.{bounded_at, rows_agree, same_up_to, moments_agree, confirmed_entered}
use Rattle.c8_world.proofs.Worlds.{IsSound, peer_here, peer_there, crash_sound, chain_sound, start_sound}
use Rattle.c8_world.proofs.Events.{IsTold}
use Rattle.c8_peer.specs.Hearing.{seen_in}
use Rattle.c8_world.proofs.Replies.{seen_seats}
use Rattle.c8_hand.specs.checked.LinkLaws.{link_past}
use Rattle.std.specs.Prelude.{nat_le}

pub reached_sound : (laws : ArePeersLawful) (rules : Rules) (room : ℕ) (w : World) → AreInRange rules → room < 2 ^ 64
    → IsReached rules room w → IsSound rules room w
reached_sound laws rules room w range few is =
    (chain_sound laws rules room (start rules) w is.events is.answers range few (start_sound rules room range) is.chain).sound

-- ---- one moment

pub begins_own : (laws : ArePeersLawful) (rules : Rules) (room : ℕ) (w : World) (p q : ℕ) → AreInRange rules → room < 2 ^ 64
    → IsReached rules room w → IsPlayer rules p → IsPlayer rules q → Begins (held rules q (journal_of w p)) (held rules q (journal_of w q))
begins_own laws rules room w p q range few is plays q_plays = (reached_sound laws rules room w range few is).journals.begins p q plays q_plays

holds_by : (rules : Rules) (w : World) (packet : Packet) (heard : Option ℕ) → IsTold rules (journal_of w) packet heard → IsTrueBy rules w packet heard
holds_by rules w packet None told = told.1
holds_by rules w packet (Some rows) told = told

-- the checkpoints of a journal are true
pub checks_true : (laws : ArePeersLawful) (rules : Rules) (room : ℕ) (w : World) (p : ℕ) → AreInRange rules → room < 2 ^ 64
    → IsReached rules room w → IsPlayer rules p → HasTrueChecks rules p (journal_of w p)
checks_true laws rules room w p range few is = (reached_sound laws rules room w range few is).journals.checks p

-- a watcher has true rows, and the machine after them
pub rows_true : (laws : ArePeersLawful) (rules : Rules) (room : ℕ) (w : World) (watcher : ℕ) → AreInRange rules → room < 2 ^ 64
    → IsReached rules room w → HasTrueRows rules w watcher
rows_true laws rules room w watcher range few is =
    let begins = (reached_sound laws rules room w range few is).watched watcher in
    let rows : List Row = rows_of w watcher in
    record {
      rows = begins;
      machine = ap (serial rules) (sym (ap (take (length rows)) begins.is ∙ take-append_seam rows begins.rest));
    }

pub said_holds : (laws : ArePeersLawful) (rules : Rules) (room : ℕ) (w : World) (packet : Packet) → AreInRange rules → room < 2 ^ 64
    → IsReached rules room w → IsAmong w.said packet → IsTrueSaid rules w packet
said_holds laws rules room w packet range few is among =
    holds_by rules w packet (seen_in packet.message) ((reached_sound laws rules room w range few is).said packet among).told

pub said_spells : (laws : ArePeersLawful) (rules : Rules) (room : ℕ) (w : World) (packet : Packet) → AreInRange rules → room < 2 ^ 64
    → IsReached rules room w → IsAmong w.said packet → Spells (spelling packet) packet
said_spells laws rules room w packet range few is among =
    record { packet = ((reached_sound laws rules room w range few is).said packet among).spelled; spelled = refl }

-- the other end of an open link is not a watcher, so its journal had the epoch of its datagrams
had_by : (rules : Rules) (w : World) (packet : Packet) (heard : Option ℕ) (l : LinksValue) → seen_in packet.message ≡ heard
    → IsTold rules (journal_of w) packet heard → IsPacket packet → (link_to l packet.head.from).is_open ≡ true
    → had_epoch packet.head.sender_epoch (journal_of w packet.head.from) ≡ true
had_by rules w packet None l seen told spelled opens = told.1.epoch
had_by rules w packet (Some rows) l seen told spelled opens =
    let from = leb-true 5 packet.head.from (and_parts (nat_le 5 packet.head.from) (nat_le packet.head.from 6)
    (seen_seats packet rows spelled seen).0).0 in
    let none : (link_to l packet.head.from).is_open ≡ false =
    ap (λ (link : LinkValue). link.is_open) (link_past l packet.head.from (omega (arith, from))) in
    absurd (both_ways (link_to l packet.head.from).is_open none opens)

pub links_name : (laws : ArePeersLawful) (rules : Rules) (room : ℕ) (w : World) (p q : ℕ) → AreInRange rules → room < 2 ^ 64
    → IsReached rules room w → IsPlayer rules p → AreLinked w p q
links_name laws rules room w p q range few is plays here opens =
    let sound = reached_sound laws rules room w range few is in
    let n = ((sound.peers p plays).awake here).links q opens in
    let told = sound.said n.packet n.among in
    let number : ℕ = (link_to (peer_of w p).memory.links q).known in
    record {
      had = subst (λ (x : ℕ). had_epoch number (journal_of w x) ≡ true) n.from
          (subst (λ (x : ℕ). had_epoch x (journal_of w n.packet.head.from) ≡ true) n.sender_epoch
          (had_by rules w n.packet (seen_in n.packet.message) (peer_of w p).memory.links refl told.told told.spelled
          (subst (λ (x : ℕ). (link_to (peer_of w p).memory.links x).is_open ≡ true) (sym n.from) opens)));
      named = n;
    }

pub cut_bounds : (laws : ArePeersLawful) (rules : Rules) (room : ℕ) (w : World) (p : ℕ) → AreInRange rules → room < 2 ^ 64
    → IsReached rules room w → IsPlayer rules p → IsBounded rules w p
cut_bounds laws rules room w p range few is plays stays leaver K leaver_plays cut =
    bounded_at rules room (journal_of w) p leaver K range (reached_sound laws rules room w range few is).journals plays leaver_plays stays cut

pub reports_bound : (laws : ArePeersLawful) (rules : Rules) (room : ℕ) (w : World) (p : ℕ) → AreInRange rules → room < 2 ^ 64
    → IsReached rules room w → IsPlayer rules p → AreReports rules w p
reports_bound laws rules room w p range few is plays here leaver n told uncut =
    let sound = reached_sound laws rules room w range few is in
    let one = player_one rules range in
    let at = ((sound.peers 1 one).awake here).chair refl leaver p n plays told in
    let less = at.few in
    ⊎_elim
    (λ no_more. omega (arith, no_more, less))
    (λ later. absurd (let never = sym uncut ∙ later.1 in cc))
    (sound.journals.frozen p leaver at.before at.rest plays at.is)

pub stayers_froze : (laws : ArePeersLawful) (rules : Rules) (room : ℕ) (w : World) (p : ℕ) → AreInRange rules → room < 2 ^ 64
    → IsReached rules room w → IsPlayer rules p → HasFrozen w p
stayers_froze laws rules room w p range few is plays stays other leaver K cut =
    let at = (reached_sound laws rules room w range few is).journals.decided leaver K p cut plays other stays in
    ap (has_freeze leaver) at.is ∙ has_freeze_at leaver at.before at.rest

-- ---- two moments

pub peers_agree : (laws : ArePeersLawful) (rules : Rules) (room : ℕ) (w v : World) (events : List Event) (answers : List Answer) (p r : ℕ)
    → AreInRange rules → room < 2 ^ 64 → IsReached rules room w → Chain rules room w events answers v
    → IsPlayer rules p → IsPlayer rules r → Agree rules w v p r
peers_agree laws rules room w v events answers p r range few is chain p_plays r_plays p_stays r_stays n p_counts r_counts =
    let later = chain_sound laws rules room w v events answers range few (reached_sound laws rules room w range few is) chain in
    moments_agree rules room (journal_of w) (journal_of v) p r n range later.sound.journals later.grown p_plays r_plays p_stays r_stays
    p_counts r_counts

-- ---- machines

abbrev pub BeginsOnTheWay : Type 0
BeginsOnTheWay = (rules : Rules) (k : KnownValue) (from : Origin) → IsOnTheWay rules k from → roll_since rules from k ≡ roll_of rules k

pub base_serial : (laws : ArePeersLawful) → BeginsOnTheWay → (rules : Rules) (room : ℕ) (w : World) (p : ℕ) → AreInRange rules
    → room < 2 ^ 64 → IsReached rules room w → IsPlayer rules p
    → base_of rules w p ≡ serial rules (confirmed_rows (known_by rules w p))
unfolding roll_since roll_of
base_serial laws way rules room w p range few is plays =
    ap (λ (v : RollValue). v.base) (way rules (known_by rules w p) (begun_at rules (journal_of w p))
    (checks_true laws rules room w p range few is plays).begun)

pub one_machine : (laws : ArePeersLawful) → BeginsOnTheWay → (rules : Rules) (room : ℕ) (w : World) (p r : ℕ) → AreInRange rules
    → room < 2 ^ 64 → IsReached rules room w → IsPlayer rules p → IsPlayer rules r
    → IsUndropped w p → IsUndropped w r → confirmed (known_by rules w p) ≡ confirmed (known_by rules w r) → base_of rules w p ≡ base_of rules w r
one_machine laws way rules room w p r range few is plays others p_stays r_stays same =
    let agree = peers_agree laws rules room w w [] [] p r range few is refl plays others p_stays r_stays (confirmed (known_by rules w p))
    (omega arith) (omega (arith, same)) in
    base_serial laws way rules room w p range few is plays ∙ agree.machine ∙ ap (λ (n : ℕ). serial rules (rows_below (known_by rules w r) n)) same
    ∙ sym (base_serial laws way rules room w r range few is others)

pub inputs_entered : (laws : ArePeersLawful) (rules : Rules) (room : ℕ) (w v : World) (events : List Event) (answers : List Answer) (p : ℕ)
    → AreInRange rules → room < 2 ^ 64 → IsReached rules room w → Chain rules room w events answers v
    → IsPlayer rules p → AreEntered rules w v p
inputs_entered laws rules room w v events answers p range few is chain plays frame q q_plays below =
    let sound = reached_sound laws rules room w range few is in
    let later = chain_sound laws rules room w v events answers range few sound chain in
    let e = confirmed_entered rules room (journal_of w) (journal_of v) p q frame range sound.journals later.grown plays q_plays below in
    record { word = e.0; is = e.1; entered = e.2 }

-- while no player is dropped
pub all_agree : (laws : ArePeersLawful) (rules : Rules) (room : ℕ) (w v : World) (events : List Event) (answers : List Answer) (p r : ℕ)
    → AreInRange rules → room < 2 ^ 64 → IsReached rules room w → Chain rules room w events answers v
    → NobodyLeaves v → IsPlayer rules p → IsPlayer rules r → AgreeUpTo rules w v p r
all_agree laws rules room w v events answers p r range few is chain nobody p_plays r_plays =
    peers_agree laws rules room w v events answers p r range few is chain p_plays r_plays (nobody p) (nobody r)

-- ---- what reads of the disks give

-- The world in which the first n players' journals are what a read of their disks finds; all journals stay sound.
adopt : World → Reads → ℕ → World
adopt w reads zero = w
adopt w reads (suc n) = with_peer (adopt w reads n) (suc n)
    (away (peer_of (adopt w reads n) (suc n)) (found (peer_of (adopt w reads n) (suc n)) (reads (suc n))) None)

adopt_sound : (rules : Rules) (room : ℕ) (w : World) (reads : Reads) (n : ℕ) → AreInRange rules → IsSound rules room w → n ≤ rules.players
    → IsSound rules room (adopt w reads n)
unfolding adopt
adopt_sound rules room w reads zero range sound within = sound
adopt_sound rules room w reads (suc n) range sound within =
    let before = adopt_sound rules room w reads n range sound (omega (arith, within)) in
    (crash_sound rules room (adopt w reads n) (suc n) (reads (suc n)) range before (record { from_one = omega arith; in_game = within })).sound

other_peer : (rules : Rules) (w : World) (p q : ℕ) (s : State) → IsPlayer rules p → IsPlayer rules q → q ≢ p
    → peer_of (with_peer w p s) q ≡ peer_of w q
other_peer rules w p q s plays q_plays apart = peer_there rules w p s [] q plays q_plays apart

this_peer : (rules : Rules) (w : World) (p : ℕ) (s : State) → length w.peers ≡ rules.players → IsPlayer rules p → peer_of (with_peer w p s) p ≡ s
this_peer rules w p s nodes plays = peer_here rules w p s [] nodes plays

-- players after the n-th keep their peers
adopt_past : (rules : Rules) (room : ℕ) (w : World) (reads : Reads) (n q : ℕ) → n < q → IsPlayer rules q → peer_of (adopt w reads n) q ≡ peer_of w q
unfolding adopt
adopt_past rules room w reads zero q past plays = refl
adopt_past rules room w reads (suc n) q past plays =
    let within = plays.in_game in
    other_peer rules (adopt w reads n) (suc n) q _ (record { from_one = omega arith; in_game = omega (arith, within, past) }) plays
    (λ e. omega (arith, e, past))
    ∙ adopt_past rules room w reads n q (omega (arith, past)) plays

adopt_is : (rules : Rules) (room : ℕ) (w : World) (reads : Reads) (n q : ℕ) → AreInRange rules → IsSound rules room w → n ≤ rules.players
    → q ≤ n → IsPlayer rules q → journal_of (adopt w reads n) q ≡ read_by w reads q
unfolding adopt
adopt_is rules room w reads zero q range sound within few plays = let from = plays.from_one in absurd (omega (arith, from, few))
adopt_is rules room w reads (suc n) q range sound within few plays =
    let here : IsPlayer rules (suc n) = record { from_one = omega arith; in_game = within } in
    let before = adopt_sound rules room w reads n range sound (omega (arith, within)) in
    elim (cases_eq q (suc n)) [
      | inl same ↦
          let old : peer_of (adopt w reads n) (suc n) ≡ peer_of w (suc n) = adopt_past rules room w reads n (suc n) (omega arith) here in
          subst (λ (x : ℕ). journal_of (adopt w reads (suc n)) x ≡ read_by w reads x) (sym same)
          (ap (λ (s : State). s.journal) (this_peer rules (adopt w reads n) (suc n) _ before.nodes here)
          ∙ ap (λ (s : State). found s (reads (suc n))) old)
      | inr apart ↦
          ap (λ (s : State). s.journal) (other_peer rules (adopt w reads n) (suc n) q _ here plays apart)
          ∙ adopt_is rules room w reads n q range sound (omega (arith, within)) (omega (arith, few, apart)) plays
    ]

-- the same for other journals that are equal
agree_at : (rules : Rules) (room : ℕ) (J : ℕ → List Record) (p r n : ℕ) (one a b : List Record) → AreInRange rules → AreSound rules room J
    → IsPlayer rules p → IsPlayer rules r
    → J 1 ≡ one → J p ≡ a → J r ≡ b → has_leave p one ≡ false → has_leave r one ≡ false → n ≤ confirmed (known_of rules p a)
    → n ≤ confirmed (known_of rules r b)
    → AreSameUpTo rules (known_of rules p a) (known_of rules r b) n
agree_at rules room J p r n one a b range sound p_plays r_plays first at_p at_r p_stays r_stays p_counts r_counts =
    let stays : (q : ℕ) → has_leave q one ≡ false → has_leave q (J 1) ≡ false = λ q e. ap (has_leave q) first ∙ e in
    let rows = rows_agree rules room J p r n range sound p_plays r_plays (stays p p_stays) (stays r r_stays)
    (subst (λ (journal : List Record). n ≤ confirmed (known_of rules p journal)) (sym at_p) p_counts)
    (subst (λ (journal : List Record). n ≤ confirmed (known_of rules r journal)) (sym at_r) r_counts) in
    same_up_to rules (known_of rules p a) (known_of rules r b) n
    (subst (λ (journal : List Record). rows_below (known_of rules p journal) n ≡ rows_below (known_of rules r b) n) at_p
    (subst (λ (journal : List Record). rows_below (known_of rules p (J p)) n ≡ rows_below (known_of rules r journal) n) at_r rows))

pub reads_agree : (laws : ArePeersLawful) (rules : Rules) (room : ℕ) (w : World) (reads : Reads) (p r : ℕ) → AreInRange rules
    → room < 2 ^ 64 → IsReached rules room w → IsPlayer rules p → IsPlayer rules r → AgreeByReads rules w reads p r
reads_agree laws rules room w reads p r range few is p_plays r_plays p_stays r_stays n p_counts r_counts =
    let sound = reached_sound laws rules room w range few is in
    let v : World = adopt w reads rules.players in
    let one = player_one rules range in
    let at : (q : ℕ) → IsPlayer rules q → journal_of v q ≡ read_by w reads q =
    λ q plays. adopt_is rules room w reads rules.players q range sound (omega arith) plays.in_game plays in
    agree_at rules room (journal_of v) p r n (read_by w reads 1) (read_by w reads p) (read_by w reads r) range
    (adopt_sound rules room w reads rules.players range sound (omega arith)).journals p_plays r_plays
    (at 1 one) (at p p_plays) (at r r_plays) p_stays r_stays p_counts r_counts

-- ---- all of it

chain_join : (rules : Rules) (room : ℕ) (w u v : World) (events more : List Event) (answers others : List Answer)
    → Chain rules room w events answers u → Chain rules room u more others v
    → Chain rules room w (events ++ more) (answers ++ others) v
chain_join rules room w u v [] more [] others chain rest = subst (λ (x : World). Chain rules room x more others v) chain rest
chain_join rules room w u v [] more (answer ∷ answers) others chain rest = absurd chain
chain_join rules room w u v (event ∷ events) more [] others chain rest = absurd chain
chain_join rules room w u v (event ∷ events) more (answer ∷ answers) others chain rest =
    (chain.0, chain.1, chain_join rules room chain.0 u v events more answers others chain.2 rest)

pub reached_later : (rules : Rules) (room : ℕ) (w v : World) (events : List Event) (answers : List Answer) → IsReached rules room w
    → Chain rules room w events answers v → IsReached rules room v
reached_later rules room w v events answers reached chain = record {
  events = reached.events ++ events;
  answers = reached.answers ++ answers;
  chain = chain_join rules room (start rules) w v reached.events events reached.answers answers reached.chain chain;
}
