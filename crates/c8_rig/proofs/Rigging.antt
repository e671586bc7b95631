-- What all threads return.
use Rattle.std.proofs.Common.{◌≡◌, ◌<◌, ◌^◌, ◌+◌, ◌-◌, ℕ, List, [], ◌++◌, length, map, Option, Some, None, Ok, Err, ⊎_elim, refl, sym, ap}
use Rattle.c8_peer.specs.Runs.{never_opened}
use Rattle.std.proofs.Common.{subst, ◌∙◌, arith, append-nil}
use Rattle.std.specs.Prelude.{slice_index_or, option_map, Result, IfOk, IfSome}
use Rattle.std.specs.List.{slice_get, range_with_len}
use Rattle.std.proofs.lemmas.List.{get_or-map, length-map}
use Rattle.std.proofs.lemmas.List.FromFn.{get_or-map-range_with_len, length-range_with_len}
use Rattle.std.proofs.lemmas.Option.{slice_get-map, slice_get_cases, slice_get_within, get_or_from_slice_get}
use Rattle.atomic_table.specs.Seated.{TableId}
use Rattle.c8_game.specs.Rules.{Rules, AreInRange}
use Rattle.c8_disk.specs.declared.mem_disk.MemDisk.{MemDisk}
use Rattle.c8_disk.specs.contracts.mem_disk.MemDiskDisk.TheImpl.{ghosts}
use Rattle.c8_peer.specs.State.{State}
use Rattle.c8_peer.specs.Peer.{PeerValue}
use Rattle.c8_peer.specs.TrueChecks.{HasTrueChecks}
use Rattle.c8_world.specs.World.{peer_of}
use Rattle.c8_world.specs.Agreement.{IsPlayer}
use Rattle.c8_rig.specs.Log.{NoteValue, IsLawful, part_of, Leads, AreLed, IsWorld, AreMoments}
use Rattle.c8_rig.specs.Tokens.{EntryValue, first_entries}
use Rattle.c8_rig.specs.Gathered.{AreAll, HaveAgreedOrNot, IsGathering}
use Rattle.c8_rig.specs.Players.{IsPeerOf, HasPlayedOn}
use Rattle.c8_rig.specs.Rigged.{IsDiskFor, HasWorked, IsMadeBy, IsPlayedAt, states_of, IsRigged}
use Rattle.c8_rig.specs.declared.gathering.Gathering.{Gathering}
use Rattle.c8_rig.specs.declared.gathering.Gathering.TheVariants.{Gathered, Torn}
use Rattle.c8_rig.proofs.Agreeing.{AgreeInWorlds, ArePeersOf, agreed}

-- ---- what the threads begin with

length_first : (ether : TableId) (n : ℕ) → length (first_entries ether n) ≡ n
length_first ether n = length-map (range_with_len 1 n) _ ∙ length-range_with_len 1 n

pub length_jobs : {J : Type 0} (entry : J → EntryValue) (ether : TableId) (n : ℕ) (jobs : List J) → map entry jobs ≡ first_entries ether n
    → length jobs ≡ n
length_jobs entry ether n jobs is = sym (length-map jobs entry) ∙ ap length is ∙ length_first ether n

pub first_at : {J : Type 0} (entry : J → EntryValue) (ether : TableId) (n : ℕ) (jobs : List J) → map entry jobs ≡ first_entries ether n
    → (i : ℕ) (x : J) → i < length jobs → x ≡ slice_index_or jobs i x → entry x ≡ record { ether = ether; player = i + 1; notes = [] }
first_at entry ether n jobs is i x within at =
    let size = length_jobs entry ether n jobs is in
    ap entry at ∙ sym (get_or-map entry jobs i x (entry x) within) ∙ ap (λ (entries : List EntryValue). slice_index_or entries i (entry x)) is
    ∙ get_or-map-range_with_len (λ p. record { ether = ether; player = p; notes = [] }) 1 n i (i + 1) (entry x)
    (omega (arith, within, size)) (omega arith)

-- ---- what the threads come back with

some_inside : {X : Type 0} (o : Option X) (y : Option X) → option_map Some o ≡ Some y → (x : X) × (o ≡ Some x) × (y ≡ Some x)
some_inside None y e = absurd cc
some_inside (Some x) y e = (x, refl, cc)

pub played_at : {P : Type 0} (rules : Rules) (turns : ℕ) (ether : TableId) (entry : P → EntryValue) (peer : P → Option (PeerValue MemDisk))
    (played : List P) (entries : List EntryValue) (peers : List (PeerValue MemDisk))
    → entries ≡ map entry played → map Some peers ≡ map peer played → (i : ℕ) (r : P) (first : EntryValue) → slice_get played i ≡ Some r
    → first ≡ record { ether = ether; player = i + 1; notes = [] } → (disk : MemDisk) → IsDiskFor turns disk
    → HasWorked rules disk first (entry r) (peer r) → IsPlayedAt rules turns ether entries peers i
played_at rules turns ether entry peer played entries peers are also i r first at is disk new_disk worked =
    let inside = some_inside (slice_get peers i) (peer r)
    (sym (slice_get-map Some peers i) ∙ ap (λ (ps : List (Option (PeerValue MemDisk))). slice_get ps i) also ∙ slice_get-map peer played i
    ∙ ap (option_map peer) at) in
    let number : first.player ≡ i + 1 = ap (λ (e : EntryValue). e.player) is in
    record {
      entry = entry r;
      there = ap (λ (es : List EntryValue). slice_get es i) are ∙ slice_get-map entry played i ∙ ap (option_map entry) at;
      peer = inside.0;
      peer_there = inside.1;
      ether_is = worked.ether ∙ ap (λ (e : EntryValue). e.ether) is;
      player_is = worked.player ∙ number;
      plays = subst (λ (p : ℕ). IsPeerOf rules p inside.0) number
          (subst (λ (o : Option (PeerValue MemDisk)). IfSome o (λ q. IsPeerOf rules first.player q)) inside.2 worked.plays);
      led = subst (λ (p : ℕ). Leads rules 0 p never_opened (entry r).notes inside.0.state) number
          (subst (λ (o : Option (PeerValue MemDisk)). IfSome o (λ q. Leads rules 0 first.player never_opened (entry r).notes q.state))
          inside.2 worked.led);
      made = record {
        disk = disk;
        new_disk = new_disk;
        played = subst (λ (p : ℕ). HasPlayedOn ghosts rules p disk (entry r).notes inside.0) number
            (subst (λ (o : Option (PeerValue MemDisk)). IfSome o (λ q. HasPlayedOn ghosts rules first.player disk (entry r).notes q))
            inside.2 worked.played);
      };
    }

pub all_played : {J P : Type 0} (rules : Rules) (turns : ℕ) (ether : TableId) (n : ℕ) (first : J → EntryValue) (disk : J → MemDisk)
    (entry : P → EntryValue) (peer : P → Option (PeerValue MemDisk)) (jobs : List J) (played : List P)
    (entries : List EntryValue) (peers : List (PeerValue MemDisk)) → map first jobs ≡ first_entries ether n
    → ((i : ℕ) (x : J) → i < length jobs → IsDiskFor turns (disk (slice_index_or jobs i x))) → length played ≡ length jobs
    → entries ≡ map entry played → map Some peers ≡ map peer played
    → ((i : ℕ) (r : P) → i < length jobs → r ≡ slice_index_or played i r
    → (job : J) × (job ≡ slice_index_or jobs i job) × HasWorked rules (disk job) (first job) (entry r) (peer r))
    → (i : ℕ) → i < n → IsPlayedAt rules turns ether entries peers i
all_played rules turns ether n first disk entry peer jobs played entries peers begins disks as_many are also worked i few =
    let size = length_jobs first ether n jobs begins in
    let within : i < length jobs = omega (arith, few, size) in
    ⊎_elim
    (λ found.
    let at : found.0 ≡ slice_index_or played i found.0 = sym found.3 in
    let one = worked i found.0 within at in
    played_at rules turns ether entry peer played entries peers are also i found.0 (first one.0) found.2
    (first_at first ether n jobs begins i one.0 within one.1)
    (disk one.0) (subst (λ (j : _). IsDiskFor turns (disk j)) (sym one.1) (disks i one.0 within)) one.2)
    (λ past. let far = past.0 in absurd (omega (arith, within, as_many, far)))
    (slice_get_cases played i).1

pub length_entries : {J P : Type 0} (ether : TableId) (n : ℕ) (first : J → EntryValue) (jobs : List J) (entry : P → EntryValue)
    (played : List P) (entries : List EntryValue) → map first jobs ≡ first_entries ether n
    → length played ≡ length jobs → entries ≡ map entry played → length entries ≡ n
length_entries ether n first jobs entry played entries begins as_many are =
    ap length are ∙ length-map played entry ∙ as_many ∙ length_jobs first ether n jobs begins

pub length_peers : {J P : Type 0} (ether : TableId) (n : ℕ) (first : J → EntryValue) (jobs : List J) (peer : P → Option (PeerValue MemDisk))
    (played : List P) (peers : List (PeerValue MemDisk)) → map first jobs ≡ first_entries ether n
    → length played ≡ length jobs → map Some peers ≡ map peer played → length peers ≡ n
length_peers ether n first jobs peer played peers begins as_many also =
    sym (length-map peers Some) ∙ ap length also ∙ length-map played peer ∙ as_many ∙ length_jobs first ether n jobs begins

pub all_there : (rules : Rules) (turns : ℕ) (ether : TableId) (n : ℕ) (entries : List EntryValue) (peers : List (PeerValue MemDisk))
    → length entries ≡ n
    → ((i : ℕ) → i < n → IsPlayedAt rules turns ether entries peers i) → AreAll ether n entries
all_there rules turns ether n entries peers size played = (
  size,
  λ i e at.
      let within = slice_get_within entries i e at in
      let a = played i (omega (arith, within, size)) in
      let both : Some a.entry ≡ Some e = sym a.there ∙ at in
      let same : a.entry ≡ e = cc in
      (subst (λ (x : EntryValue). x.ether ≡ ether) same a.ether_is, subst (λ (x : EntryValue). x.player ≡ i + 1) same a.player_is),
)

-- ---- the match

abbrev pub AreWorlds : Type 0
AreWorlds = (rules : Rules) (room : ℕ) (log : List NoteValue) (states : ℕ → State) → IsLawful rules.players log
    → AreLed rules room log states → IsWorld rules room log states

abbrev pub AreMatches : Type 0
AreMatches = (rules : Rules) (room : ℕ) (front between rest : List NoteValue) (states : ℕ → State) → AreInRange rules → room < 2 ^ 64
    → IsLawful rules.players (front ++ between ++ rest)
    → AreLed rules room (front ++ between ++ rest) states → AreMoments rules room front between rest states

all_led : (rules : Rules) (turns : ℕ) (ether : TableId) (log : List NoteValue) (entries : List EntryValue)
    (peers : List (PeerValue MemDisk)) → ((i : ℕ) → i < rules.players → IsPlayedAt rules turns ether entries peers i)
    → ((i : ℕ) (e : EntryValue) → slice_get entries i ≡ Some e → e.notes ≡ part_of e.player log) → AreLed rules 0 log (states_of peers)
all_led rules turns ether log entries peers played parts p plays =
    let from = plays.from_one in
    let to = plays.in_game in
    let a = played (p - 1) (omega (arith, from, to)) in
    let number : p - 1 + 1 ≡ p = omega (arith, from) in
    let part : a.entry.notes ≡ part_of p log = parts (p - 1) a.entry a.there ∙ ap (λ (q : ℕ). part_of q log) (a.player_is ∙ number) in
    let within = slice_get_within peers (p - 1) a.peer a.peer_there in
    let state : a.peer.state ≡ states_of peers p =
    sym (get_or-map (λ (q : PeerValue MemDisk). q.state) peers (p - 1) a.peer never_opened within
    ∙ ap (λ (q : PeerValue MemDisk). q.state) (get_or_from_slice_get peers (p - 1) a.peer a.peer a.peer_there)) in
    subst (λ (q : ℕ). Leads rules 0 q never_opened (part_of p log) (states_of peers p)) number
    (subst (λ (s : State). Leads rules 0 (p - 1 + 1) never_opened (part_of p log) s) state
    (subst (λ (notes : List NoteValue). Leads rules 0 (p - 1 + 1) never_opened notes a.peer.state) part a.led))

unsome : {X : Type 0} (a b : X) → Some a ≡ Some b → a ≡ b
unsome a b e = cc

all_plays : (rules : Rules) (turns : ℕ) (ether : TableId) (entries : List EntryValue) (peers : List (PeerValue MemDisk))
    → length peers ≡ rules.players
    → ((i : ℕ) → i < rules.players → IsPlayedAt rules turns ether entries peers i) → (i : ℕ) (q : PeerValue MemDisk)
    → slice_get peers i ≡ Some q → IsPeerOf rules (i + 1) q
all_plays rules turns ether entries peers size played i q at =
    let within = slice_get_within peers i q at in
    let a = played i (omega (arith, within, size)) in
    subst (λ (x : PeerValue MemDisk). IsPeerOf rules (i + 1) x) (unsome a.peer q (sym a.peer_there ∙ at)) a.plays

pub at_their_places : (rules : Rules) (turns : ℕ) (ether : TableId) (n : ℕ) (entries : List EntryValue) (peers : List (PeerValue MemDisk))
    → length peers ≡ n
    → ((i : ℕ) → i < n → IsPlayedAt rules turns ether entries peers i) → (i : ℕ) (q : PeerValue MemDisk) → slice_get peers i ≡ Some q → q.me ≡ i + 1
at_their_places rules turns ether n entries peers size played i q at =
    let within = slice_get_within peers i q at in
    let a = played i (omega (arith, within, size)) in
    subst (λ (x : PeerValue MemDisk). x.me ≡ i + 1) (unsome a.peer q (sym a.peer_there ∙ at)) a.plays.me_is

-- each has made the calls of its part of the log
all_made : (rules : Rules) (turns : ℕ) (ether : TableId) (log : List NoteValue) (entries : List EntryValue)
    (peers : List (PeerValue MemDisk)) → length peers ≡ rules.players
    → ((i : ℕ) → i < rules.players → IsPlayedAt rules turns ether entries peers i)
    → ((i : ℕ) (e : EntryValue) → slice_get entries i ≡ Some e → e.notes ≡ part_of e.player log)
    → (i : ℕ) (q : PeerValue MemDisk) → slice_get peers i ≡ Some q → IsMadeBy rules turns (i + 1) (part_of (i + 1) log) q
all_made rules turns ether log entries peers size played parts i q at =
    let within = slice_get_within peers i q at in
    let a = played i (omega (arith, within, size)) in
    let part : a.entry.notes ≡ part_of (i + 1) log = parts i a.entry a.there ∙ ap (λ (p : ℕ). part_of p log) a.player_is in
    subst (λ (x : PeerValue MemDisk). IsMadeBy rules turns (i + 1) (part_of (i + 1) log) x) (unsome a.peer q (sym a.peer_there ∙ at))
    (subst (λ (notes : List NoteValue). IsMadeBy rules turns (i + 1) notes a.peer) part a.made)

state_at : (peers : List (PeerValue MemDisk)) (i : ℕ) (q : PeerValue MemDisk) → slice_get peers i ≡ Some q → states_of peers (i + 1) ≡ q.state
state_at peers i q at =
    let within = slice_get_within peers i q at in
    let place : i + 1 - 1 ≡ i = omega arith in
    ap (λ (j : ℕ). slice_index_or (map (λ (x : PeerValue MemDisk). x.state) peers) j never_opened) place
    ∙ get_or-map (λ (x : PeerValue MemDisk). x.state) peers i q never_opened within
    ∙ ap (λ (x : PeerValue MemDisk). x.state) (get_or_from_slice_get peers i q q at)

-- the last moment of the log is a moment of a match, in which each journal's checkpoints are true
all_checked : AreMatches → (rules : Rules) (log : List NoteValue) (peers : List (PeerValue MemDisk)) → AreInRange rules
    → length peers ≡ rules.players → IsLawful rules.players log → AreLed rules 0 log (states_of peers)
    → (i : ℕ) (q : PeerValue MemDisk) → slice_get peers i ≡ Some q → HasTrueChecks rules (i + 1) q.state.journal
all_checked matches rules log peers range size lawful led i q at =
    let within = slice_get_within peers i q at in
    let here : IsPlayer rules (i + 1) = record { from_one = omega arith; in_game = omega (arith, within, size) } in
    let whole : log ≡ log ++ [] ++ [] = sym (append-nil log) ∙ sym (append-nil (log ++ [])) in
    let last = matches rules 0 log [] [] (states_of peers) range (omega arith)
    (subst (λ (l : List NoteValue). IsLawful rules.players l) whole lawful)
    (subst (λ (l : List NoteValue). AreLed rules 0 l (states_of peers)) whole led) in
    let there : states_of peers (i + 1) ≡ peer_of last.later (i + 1) = last.left (i + 1) here in
    subst (λ (s : State). HasTrueChecks rules (i + 1) s.journal) (sym there ∙ state_at peers i q at) (last.headline.checks (i + 1) here)

rigged_so : AreWorlds → AreMatches → AgreeInWorlds
    → (rules : Rules) (turns : ℕ) (ether : TableId) (entries : List EntryValue) (peers : List (PeerValue MemDisk)) (gathering : Gathering)
    → AreInRange rules → length peers ≡ rules.players
    → ((i : ℕ) → i < rules.players → IsPlayedAt rules turns ether entries peers i) → IsGathering rules.players entries peers gathering
    → IsRigged rules turns gathering
rigged_so worlds matches law rules turns ether entries peers (Gathered log held agree) range size played is =
    let led : AreLed rules 0 log.items (states_of held.items) =
    subst (λ (ps : List (PeerValue MemDisk)). AreLed rules 0 log.items (states_of ps)) (sym is.2)
    (all_led rules turns ether log.items entries peers played is.1) in
    let many : length held.items ≡ rules.players = ap length is.2 ∙ size in
    let plays : ArePeersOf rules held.items =
    λ i q at. all_plays rules turns ether entries peers size played i q
    (subst (λ (ps : List (PeerValue MemDisk)). slice_get ps i ≡ Some q) is.2 at) in
    let world : IsWorld rules 0 log.items (states_of held.items) = worlds rules 0 log.items (states_of held.items) is.0 led in
    let told : HaveAgreedOrNot held.items agree = subst (λ (ps : List (PeerValue MemDisk)). HaveAgreedOrNot ps agree) (sym is.2) is.3 in
    record {
      size = many;
      plays = plays;
      made = λ i q at. all_made rules turns ether log.items entries peers size played is.1 i q
          (subst (λ (ps : List (PeerValue MemDisk)). slice_get ps i ≡ Some q) is.2 at);
      lawful = is.0;
      world = world;
      moments = λ front between rest e. matches rules 0 front between rest (states_of held.items) range (omega arith)
          (subst (λ (l : List NoteValue). IsLawful rules.players l) e is.0)
          (subst (λ (l : List NoteValue). AreLed rules 0 l (states_of held.items)) e led);
      checks = all_checked matches rules log.items held.items range many is.0 led;
      agrees = told;
      yes = agreed law rules log.items held.items range many plays world agree told;
    }
rigged_so worlds matches law rules turns ether entries peers Torn range size played is = absurd is

pub rigged : {E : Type 0} → AreWorlds → AreMatches → AgreeInWorlds
    → (rules : Rules) (turns : ℕ) (ether : TableId) (entries : List EntryValue) (peers : List (PeerValue MemDisk))
    (result : Result Gathering E) → AreInRange rules → length peers ≡ rules.players
    → ((i : ℕ) → i < rules.players → IsPlayedAt rules turns ether entries peers i)
    → IfOk result (λ g. IsGathering rules.players entries peers g) → IfOk result (λ g. IsRigged rules turns g)
rigged worlds matches law rules turns ether entries peers (Ok g) range size played is =
    rigged_so worlds matches law rules turns ether entries peers g range size played is
rigged worlds matches law rules turns ether entries peers (Err e) range size played is = tt
