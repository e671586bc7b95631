-- What an engine keeps when its peer makes a call.
use Rattle.std.proofs.Common.{◌≡◌, ◌≤◌, ◌+◌, ℕ, List, [], ◌∷◌, Bool, false, take, length, refl, sym, ap, subst, ◌∙◌, arith}
use Rattle.std.proofs.lemmas.Bool.{true≢false}
use Rattle.c8_game.specs.Rules.{Rules}
use Rattle.c8_game.specs.declared.row.Row.{Row}
use Rattle.c8_disk.specs.declared.disk.Disk.{Ghosts}
use Rattle.c8_known.specs.Known.{KnownValue}
use Rattle.c8_known.specs.Confirmed.{confirmed, rows_below, best_rows_below, best_rows}
use Rattle.c8_peer.specs.State.{Call, Reply}
use Rattle.c8_peer.specs.Peer.{PeerValue, IsAnswered, known_by}
use Rattle.c8_session.specs.Runs.{HasRunOn}
use Rattle.c8_embed.specs.Steps.{StepsValue, IsTrueTo, IsStepped}
use Rattle.c8_embed.specs.Engine.{IsEngine}
use Rattle.c8_embed.proofs.StepsLemmas.{best_confirmed, best_length, best_take}

-- what was given stays true if the confirmed rows stay
pub true_later : (old new : KnownValue) (s : StepsValue) → confirmed old ≤ confirmed new
    → ((n : ℕ) → n ≤ confirmed old → rows_below new n ≡ rows_below old n) → IsTrueTo old s → IsTrueTo new s
true_later old new s rises rows is =
    let within = is.confirmed_is in
    let later : s.settled ≤ confirmed new = omega (arith, within, rises) in
    record {
      confirmed_is = later;
      within = is.within;
      settled_is = is.settled_is ∙ best_confirmed old s.settled within ∙ sym (rows s.settled within) ∙ sym (best_confirmed new s.settled later);
    }

-- an engine whose peer has gone on keeps what is true, and is not up to date
engine_then : {D : Type 0} (old new : PeerValue D) (s : StepsValue) (is_told : Bool) → new.rules ≡ old.rules
    → (IsTrueTo (known_by old) s → IsTrueTo (known_by new) s) → IsEngine old s is_told → IsEngine new s false
engine_then old new s is_told same stays engine = record {
  true_to = stays engine.true_to;
  room = subst (λ (r : Rules). s.room ≡ r.frames + r.window) (sym same) engine.room;
  told = λ no_more. absurd (true≢false (sym no_more));
}

-- after one call
pub engine_after : {D : Type 0} (disk : Ghosts D) (old new : PeerValue D) (call : Call) (reply : Reply) (s : StepsValue) (is_told : Bool)
    → IsAnswered disk old call reply new → (IsTrueTo (known_by old) s → IsTrueTo (known_by new) s) → IsEngine old s is_told → IsEngine new s false
engine_after disk old new call reply s is_told answered stays engine = engine_then old new s is_told answered.same.rules stays engine

-- after any calls
pub engine_ran : {D : Type 0} (disk : Ghosts D) (old new : PeerValue D) (s : StepsValue) (is_told : Bool)
    → HasRunOn disk old new → (IsTrueTo (known_by old) s → IsTrueTo (known_by new) s) → IsEngine old s is_told → IsEngine new s false
engine_ran disk old new s is_told ran stays engine = engine_then old new s is_told ran.rules stays engine

-- an engine that was given all best rows gets no more
pub told_steps : (k : KnownValue) (most : ℕ) (given : List Row) → given ≡ best_rows k → IsStepped k most given given k.ticks 0
told_steps k most given is =
    let long : length given ≡ k.ticks = ap (λ (rows : List Row). length rows) is ∙ best_length k k.ticks in
    let none : k.ticks + 0 ≡ k.ticks = omega arith in
    record {
      first = record {
        ticked = omega arith;
        within = omega (arith, long);
        same = ap (take k.ticks) is ∙ best_take k k.ticks k.ticks (omega arith);
        differs = λ less. absurd (omega (arith, less, long));
      };
      few = omega arith;
      ticked = omega arith;
      all = λ some. none;
      given = is ∙ ap (best_rows_below k) (sym none);
    }

-- all of a list
pub take_long : {X : Type 0} (xs : List X) → take (length xs) xs ≡ xs
take_long [] = refl
take_long {X = X} (x ∷ xs) = ap (λ (rest : List X). x ∷ rest) (take_long xs)
