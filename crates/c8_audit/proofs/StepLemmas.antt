-- What each step of one peer keeps, a list of events keeps.
use Rattle.std.proofs.Common.{◌≡◌, ◌≢◌, ℕ, ◌-◌, inl, inr, List, [], ◌∷◌, ◌++◌, length, Bool, true, false, cond, Option, Some, None, Ok}
use Rattle.c8_peer.specs.Runs.{never_opened}
use Rattle.std.proofs.Common.{refl, sym, subst, ◌∙◌, arith, slice_set, slice_index_or}
use Rattle.std.specs.Prelude.{nat_le}
use Rattle.std.specs.List.{slice_get}
use Rattle.std.proofs.lemmas.Bool.{cases_eq, leb-true, and_parts}
use Rattle.std.proofs.lemmas.List.{length-set, get_or-set_same, get_or-set_other}
use Rattle.c8_game.specs.Rules.{Rules}
use Rattle.c8_wire.specs.Packet.{Packet}
use Rattle.c8_peer.specs.State as states
use Rattle.c8_peer.specs.State.{Mode, Down, Away, State, Call}
use Rattle.c8_peer.specs.Steps.{DiskOutcome, step}
use Rattle.c8_peer.specs.Opening.{Opening, found, away, opened}
use Rattle.c8_world.specs.World.{World, is_player, peer_of, Act, Open, Tick, Say, Give, Leave, Decide, Check, Show, Hear}
use Rattle.c8_world.specs.World.{Seen, Fresh, Event, Do, Stop, player_of, Happening, Answer, After, call_at_mode, call_at, open_at_mode}
use Rattle.c8_world.specs.World.{give_to, hear_at, acted, crashed, after, Chain}
use Rattle.c8_world.specs.Agreement.{IsPlayer}

-- A relation between an earlier and a later state of player p's peer that holds for each step of it.
pub record HoldsForSteps (rules : Rules) (room p : ℕ) (R : State → State → Type 0) : Type 0 where
  pub same : (s : State) → R s s
  pub more : (s u t : State) → R s u → R u t → R s t
  pub called : (s : State) (call : Call) (on_disk : DiskOutcome) → s.mode ≡ states.Open → R s (step rules p s call on_disk).state
  pub opens : (s : State) (finds : Bool) (o : Opening) → s.mode ≢ states.Open → R s (opened rules room p s (found s finds) o).state
  pub crashes : (s : State) (finds : Bool) → R s (away s (found s finds) None)

-- player p's peer moved by the relation, and there are as many peers as before
pub record HasMoved (p : ℕ) (R : State → State → Type 0) (w v : World) : Type 0 where
  pub nodes : length v.peers ≡ length w.peers
  pub moved : R (peer_of w p) (peer_of v p)

moved_same : (rules : Rules) (room p : ℕ) (R : State → State → Type 0) (w : World) → HoldsForSteps rules room p R → HasMoved p R w w
moved_same rules room p R w holds = record { nodes = refl; moved = holds.same (peer_of w p) }

moved_more : (rules : Rules) (room p : ℕ) (R : State → State → Type 0) (w u v : World) → HoldsForSteps rules room p R → HasMoved p R w u
    → HasMoved p R u v → HasMoved p R w v
moved_more rules room p R w u v holds one two =
    record { nodes = two.nodes ∙ one.nodes; moved = holds.more (peer_of w p) (peer_of u p) (peer_of v p) one.moved two.moved }

-- ---- one peer changes

abbrev pub placed : World → ℕ → State → List Packet → World
placed w q s new = record w { peers = slice_set w.peers (q - 1) s; said = w.said ++ new }

moved_one : (rules : Rules) (room p : ℕ) (R : State → State → Type 0) (w : World) (q : ℕ) (s : State) (new : List Packet)
    → HoldsForSteps rules room p R → length w.peers ≡ rules.players → IsPlayer rules q
    → (q ≡ p → R (peer_of w q) s) → IsPlayer rules p → HasMoved p R w (placed w q s new)
moved_one rules room p R w q s new holds nodes plays moves own =
    let from = plays.from_one in
    let to = plays.in_game in
    let first = own.from_one in
    record {
      nodes = length-set w.peers (q - 1) s;
      moved = elim (cases_eq q p) [
        | inl same ↦
            let now : slice_index_or (slice_set w.peers (q - 1) s) (q - 1) never_opened ≡ s =
            get_or-set_same w.peers (q - 1) s never_opened (omega (arith, from, to, nodes)) in
            subst (λ (x : ℕ). R (peer_of w x) (peer_of (placed w q s new) x)) same (subst (λ (t : State). R (peer_of w q) t) (sym now) (moves same))
        | inr apart ↦
            let there : slice_index_or (slice_set w.peers (q - 1) s) (p - 1) never_opened ≡ peer_of w p =
            get_or-set_other w.peers (q - 1) (p - 1) s never_opened (λ e. apart (omega (arith, e, from, first))) in
            subst (λ (t : State). R (peer_of w p) t) (sym there) (holds.same (peer_of w p))
      ];
    }

pub plays_if : (rules : Rules) (p : ℕ) → is_player rules p ≡ true → IsPlayer rules p
plays_if rules p is =
    let tests = and_parts (nat_le 1 p) (nat_le p rules.players) is in
    record { from_one = leb-true 1 p tests.0; in_game = leb-true p rules.players tests.1 }

if_player : (P : After → Type 0) (b : Bool) (x y : After) → (b ≡ true → P x) → P y → P (cond b x y)
if_player P true x y when unless = when refl
if_player P false x y when unless = unless

world_if : (P : World → Type 0) (b : Bool) (x y : World) → (b ≡ true → P x) → P y → P (cond b x y)
world_if P true x y when unless = when refl
world_if P false x y when unless = unless

-- ---- an event

moved_mode : (rules : Rules) (room p : ℕ) (R : State → State → Type 0) (w : World) (q : ℕ) (call : Call) (on_disk : DiskOutcome)
    (mode : Mode) → HoldsForSteps rules room p R → length w.peers ≡ rules.players → IsPlayer rules q → IsPlayer rules p
    → (peer_of w q).mode ≡ mode → HasMoved p R w (call_at_mode rules w q call on_disk mode).world
moved_mode rules room p R w q call on_disk states.Open holds nodes plays own up =
    moved_one rules room p R w q _ _ holds nodes plays
    (λ same. subst (λ (me : ℕ). R (peer_of w q) (step rules me (peer_of w q) call on_disk).state) (sym same)
    (holds.called (peer_of w q) call on_disk up)) own
moved_mode rules room p R w q call on_disk Down holds nodes plays own up = moved_same rules room p R w holds
moved_mode rules room p R w q call on_disk Away holds nodes plays own up = moved_same rules room p R w holds

moved_call : (rules : Rules) (room p : ℕ) (R : State → State → Type 0) (w : World) (q : ℕ) (call : Call) (on_disk : DiskOutcome)
    → HoldsForSteps rules room p R → length w.peers ≡ rules.players → IsPlayer rules p
    → HasMoved p R w (call_at rules w q call on_disk).world
moved_call rules room p R w q call on_disk holds nodes own =
    if_player (λ (a : After). HasMoved p R w a.world) (is_player rules q) _ _
    (λ is. moved_mode rules room p R w q call on_disk (peer_of w q).mode holds nodes (plays_if rules q is) own refl)
    (moved_same rules room p R w holds)

moved_opening : (rules : Rules) (room p : ℕ) (R : State → State → Type 0) (w : World) (q : ℕ) (h : Happening) (mode : Mode)
    → HoldsForSteps rules room p R → length w.peers ≡ rules.players → IsPlayer rules q → IsPlayer rules p
    → (peer_of w q).mode ≡ mode → HasMoved p R w (open_at_mode rules room w q h mode).world
moved_opening rules room p R w q h states.Open holds nodes plays own at = moved_same rules room p R w holds
moved_opening rules room p R w q h Down holds nodes plays own at =
    moved_one rules room p R w q _ _ holds nodes plays
    (λ same. subst (λ (me : ℕ). R (peer_of w q) (opened rules room me (peer_of w q) (found (peer_of w q) h.finds) h.opening).state)
    (sym same) (holds.opens (peer_of w q) h.finds h.opening (λ e. let no_mode : Down ≡ states.Open = sym at ∙ e in cc))) own
moved_opening rules room p R w q h Away holds nodes plays own at =
    moved_one rules room p R w q _ _ holds nodes plays
    (λ same. subst (λ (me : ℕ). R (peer_of w q) (opened rules room me (peer_of w q) (found (peer_of w q) h.finds) h.opening).state)
    (sym same) (holds.opens (peer_of w q) h.finds h.opening (λ e. let no_mode : Away ≡ states.Open = sym at ∙ e in cc))) own

moved_given : (rules : Rules) (room p : ℕ) (R : State → State → Type 0) (w : World) (q : ℕ) (on_disk : DiskOutcome) (o : Option Packet)
    → HoldsForSteps rules room p R → length w.peers ≡ rules.players → IsPlayer rules p
    → HasMoved p R w (give_to rules w q on_disk o).world
moved_given rules room p R w q on_disk None holds nodes own = moved_same rules room p R w holds
moved_given rules room p R w q on_disk (Some packet) holds nodes own =
    moved_call rules room p R w q (states.Deliver (Ok packet)) on_disk holds nodes own

moved_heard : (rules : Rules) (room p : ℕ) (R : State → State → Type 0) (w : World) (watcher : ℕ) (o : Option Packet)
    → HoldsForSteps rules room p R → HasMoved p R w (hear_at rules room w watcher o).world
moved_heard rules room p R w watcher None holds = moved_same rules room p R w holds
moved_heard rules room p R w watcher (Some packet) holds = record { nodes = refl; moved = holds.same (peer_of w p) }

moved_act : (rules : Rules) (room p : ℕ) (R : State → State → Type 0) (w : World) (act : Act) (h : Happening) → HoldsForSteps rules room p R
    → length w.peers ≡ rules.players → IsPlayer rules p → HasMoved p R w (acted rules room w act h).world
unfolding acted
moved_act rules room p R w (Open q) h holds nodes own =
    if_player (λ (a : After). HasMoved p R w a.world) (is_player rules q) _ _
    (λ is. moved_opening rules room p R w q h (peer_of w q).mode holds nodes (plays_if rules q is) own refl)
    (moved_same rules room p R w holds)
moved_act rules room p R w (Tick q keys) h holds nodes own = moved_call rules room p R w q (states.Tick keys) h.on_disk holds nodes own
moved_act rules room p R w (Say q to what) h holds nodes own = moved_call rules room p R w q (states.Say to what) h.on_disk holds nodes own
moved_act rules room p R w (Give number q) h holds nodes own = moved_given rules room p R w q h.on_disk (slice_get w.said number) holds nodes own
moved_act rules room p R w (Leave leaver) h holds nodes own = moved_call rules room p R w 1 (states.Leave leaver) h.on_disk holds nodes own
moved_act rules room p R w (Decide leaver) h holds nodes own = moved_call rules room p R w 1 (states.Decide leaver) h.on_disk holds nodes own
moved_act rules room p R w (Check q) h holds nodes own = moved_call rules room p R w q states.Checkpoint h.on_disk holds nodes own
moved_act rules room p R w (Show watcher) h holds nodes own = moved_call rules room p R w 1 (states.Show watcher) h.on_disk holds nodes own
moved_act rules room p R w (Hear number watcher) h holds nodes own = moved_heard rules room p R w watcher (slice_get w.said number) holds
moved_act rules room p R w (Seen watcher) h holds nodes own = record { nodes = refl; moved = holds.same (peer_of w p) }
moved_act rules room p R w (Fresh watcher) h holds nodes own = record { nodes = refl; moved = holds.same (peer_of w p) }

moved_crash : (rules : Rules) (room p : ℕ) (R : State → State → Type 0) (w : World) (q : ℕ) (leaves : Bool) → HoldsForSteps rules room p R
    → length w.peers ≡ rules.players → IsPlayer rules p → HasMoved p R w (crashed rules w q leaves)
moved_crash rules room p R w q leaves holds nodes own =
    world_if (HasMoved p R w) (is_player rules q) _ _
    (λ is. let moved = moved_one rules room p R w q (away (peer_of w q) (found (peer_of w q) leaves) None) [] holds nodes
    (plays_if rules q is) (λ same. holds.crashes (peer_of w q) leaves) own in
    record { nodes = moved.nodes; moved = moved.moved })
    (moved_same rules room p R w holds)

moved_after : (rules : Rules) (room p : ℕ) (R : State → State → Type 0) (w : World) (event : Event) (h : Happening)
    → HoldsForSteps rules room p R → length w.peers ≡ rules.players → IsPlayer rules p → HasMoved p R w (after rules room w event h).world
moved_after rules room p R w (Do act) h holds nodes own = moved_act rules room p R w act h holds nodes own
moved_after rules room p R w (Stop act calls pick) h holds nodes own =
    let u : World = (acted rules room w act h).world in
    let one = moved_act rules room p R w act h holds nodes own in
    moved_more rules room p R w u (crashed rules u (player_of act) h.leaves) holds one
    (moved_crash rules room p R u (player_of act) h.leaves holds (one.nodes ∙ nodes) own)

-- ---- any list of events

pub moved_chain : (rules : Rules) (room p : ℕ) (R : State → State → Type 0) (w v : World) (events : List Event) (answers : List Answer)
    → HoldsForSteps rules room p R → length w.peers ≡ rules.players → IsPlayer rules p
    → Chain rules room w events answers v → HasMoved p R w v
moved_chain rules room p R w v [] [] holds nodes own chain = subst (λ (x : World). HasMoved p R w x) (sym chain) (moved_same rules room p R w holds)
moved_chain rules room p R w v [] (answer ∷ answers) holds nodes own chain = absurd chain
moved_chain rules room p R w v (event ∷ events) [] holds nodes own chain = absurd chain
moved_chain rules room p R w v (event ∷ events) (answer ∷ answers) holds nodes own chain =
    let u : World = chain.0 in
    let one : HasMoved p R w u = subst (λ (a : After). HasMoved p R w a.world) chain.1.is
    (moved_after rules room p R w event chain.1.happening holds nodes own) in
    moved_more rules room p R w u v holds one (moved_chain rules room p R u v events answers holds (one.nodes ∙ nodes) own chain.2)
