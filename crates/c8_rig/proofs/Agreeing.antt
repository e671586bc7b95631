-- The peers that the threads return agree, because they are the peers of a world.
use Rattle.std.proofs.Common.{◌≡◌, ◌<◌, ◌^◌, ◌+◌, ◌-◌, ℕ, List, length, map, Option, Some, None, Bool, true, false, refl, sym, ap, subst, ◌∙◌, arith}
use Rattle.c8_peer.specs.Runs.{never_opened}
use Rattle.std.specs.Prelude.{slice_index_or, option_map}
use Rattle.std.specs.List.{slice_get}
use Rattle.std.proofs.lemmas.List.{get_or-map, length-map}
use Rattle.std.proofs.lemmas.Option.{slice_get-map, slice_get-get_or, slice_get_within, get_or_from_slice_get}
use Rattle.c8_game.specs.Rules.{Rules, AreInRange}
use Rattle.c8_disk.specs.declared.mem_disk.MemDisk.{MemDisk}
use Rattle.c8_known.specs.Journal.{Record, has_leave}
use Rattle.c8_known.specs.Known.{PlayerValue, KnownValue, player_in, known_of}
use Rattle.c8_known.specs.checked.OneMore.{player_known}
use Rattle.c8_peer.specs.Peer.{PeerValue, known_by}
use Rattle.c8_world.specs.declared.ends.Standing.{Standing}
use Rattle.c8_world.specs.World.{World, peer_of, IsReached}
use Rattle.c8_world.specs.Agreement.{IsPlayer, Reads, AgreeByReads}
use Rattle.c8_world.specs.Ends.{known_at, both, AreSameRows, HasStayedAt, HaveAgreed}
use Rattle.c8_rig.specs.Log.{NoteValue, event_of, IsWorld}
use Rattle.c8_rig.specs.Players.{IsPeerOf}
use Rattle.c8_rig.specs.Gathered.{HaveAgreedOrNot}
use Rattle.c8_rig.specs.Rigged.{states_of}

abbrev pub AgreeInWorlds : Type 0
AgreeInWorlds = (rules : Rules) (room : ℕ) (w : World) (reads : Reads) (p r : ℕ) → AreInRange rules → room < 2 ^ 64 → IsReached rules room w
    → IsPlayer rules p → IsPlayer rules r → AgreeByReads rules w reads p r

abbrev pub ArePeersOf : Rules → List (PeerValue MemDisk) → Type 0
ArePeersOf rules peers = (i : ℕ) (q : PeerValue MemDisk) → slice_get peers i ≡ Some q → IsPeerOf rules (i + 1) q

-- no pending record counts: every peer is here, none is a disk
abbrev none_is_read : Reads
none_is_read p = false

mapped : {X Y : Type 0} (f : X → Y) (o : Option X) (y : Y) → Some y ≡ option_map f o → (x : X) × (o ≡ Some x) × (y ≡ f x)
mapped f None y e = absurd cc
mapped f (Some x) y e = (x, refl, cc)

module _ (law : AgreeInWorlds) (rules : Rules) (log : List NoteValue) (peers : List (PeerValue MemDisk)) (range : AreInRange rules)
    (size : length peers ≡ rules.players) (plays : ArePeersOf rules peers)
    (is : IsWorld rules 0 log (states_of peers)) where
  abbrev journal : ℕ → List Record
  journal p = (peer_of is.world p).journal

  player_at : (i : ℕ) → i < length peers → IsPlayer rules (i + 1)
  player_at i within = record { from_one = omega arith; in_game = omega (arith, within, size) }

  -- what a peer knows is what its journal in that world says
  known_there : (i : ℕ) (q : PeerValue MemDisk) → slice_get peers i ≡ Some q → known_by q ≡ known_of rules (i + 1) (journal (i + 1))
  known_there i q at =
      let within = slice_get_within peers i q at in
      let place : i + 1 - 1 ≡ i = omega arith in
      let state : q.state ≡ peer_of is.world (i + 1) =
      ap (λ (x : PeerValue MemDisk). x.state) (sym (get_or_from_slice_get peers i q q at))
      ∙ sym (get_or-map (λ (x : PeerValue MemDisk). x.state) peers i q never_opened within)
      ∙ ap (λ (j : ℕ). slice_index_or (map (λ (x : PeerValue MemDisk). x.state) peers) j never_opened) (sym place)
      ∙ sym (is.peers (i + 1) (player_at i within)) in
      let one = plays i q at in
      λ k. known_of (one.rules_are k) (one.me_is k) (state k).journal

  module _ (standings : List Standing) (known : map known_at standings ≡ map known_by peers) where
    as_many : length standings ≡ length peers
    as_many = sym (length-map standings known_at) ∙ ap length known ∙ length-map peers known_by

    known_here : (i : ℕ) (one : Standing) → slice_get standings i ≡ Some one → known_at one ≡ known_of rules (i + 1) (journal (i + 1))
    known_here i one at =
        let a = mapped known_by (slice_get peers i) (known_at one)
        (sym (ap (option_map known_at) at) ∙ sym (slice_get-map known_at standings i) ∙ ap (λ (ks : List KnownValue). slice_get ks i) known
        ∙ slice_get-map known_by peers i) in
        a.2 ∙ known_there i a.0 a.1

    stayed : (i : ℕ) (one : Standing) → slice_get standings i ≡ Some one → HasStayedAt standings i → has_leave (i + 1) (journal 1) ≡ false
    stayed i one at stays =
        let within = slice_get_within standings i one at in
        let plays_here = player_at i (omega (arith, within, as_many)) in
        let first = slice_get-get_or standings 0 one (omega (arith, within)) in
        sym (ap (λ (x : PlayerValue). x.leaving) (player_known rules 1 (i + 1) (journal 1) plays_here.from_one plays_here.in_game))
        ∙ sym (ap (λ (k : KnownValue). (player_in k (i + 1)).leaving) (known_here 0 (slice_index_or standings 0 one) first))
        ∙ stays (slice_index_or standings 0 one) first

    all_agreed : HaveAgreed standings
    all_agreed i i_within j j_within i_stays j_stays one other i_at j_at =
        let reached : IsReached rules 0 is.world = record { events = map event_of log; answers = is.goes.answers; chain = is.goes.chain } in
        let a = known_of rules (i + 1) (journal (i + 1)) in
        let b = known_of rules (j + 1) (journal (j + 1)) in
        let same = law rules 0 is.world none_is_read (i + 1) (j + 1) range (omega arith) reached
        (player_at i (omega (arith, i_within, as_many))) (player_at j (omega (arith, j_within, as_many)))
        (stayed i one i_at i_stays) (stayed j other j_at j_stays) (both a b) (omega arith) (omega arith) in
        subst (λ (k : KnownValue). AreSameRows k (known_at other)) (sym (known_here i one i_at))
        (subst (λ (k : KnownValue). AreSameRows a k) (sym (known_here j other j_at)) same.rows)

  pub agreed : (agree : Bool) → HaveAgreedOrNot peers agree → agree ≡ true
  agreed agree told = told.2.1 (all_agreed told.0 told.1)
