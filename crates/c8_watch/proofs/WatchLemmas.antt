-- How the parts of a watcher's turn join.
use Rattle.std.proofs.Common.{◌≡◌, ◌≤◌, ℕ, zero, suc, ◌+◌, List, [], ◌∷◌, ◌++◌, refl, sym, ap, subst, ◌∙◌, arith, append-nil, append_assoc}
use Rattle.std.specs.Prelude.{Result}
use Rattle.std.proofs.lemmas.List.{length-append}
use Rattle.c8_wire.specs.declared.error.WireError.{WireError}
use Rattle.c8_wire.specs.Packet.{Packet}
use Rattle.c8_wire.specs.checked.Read.{read}
use Rattle.c8_spectator.specs.Growth.{IsStillWatched}
use Rattle.c8_spectator.specs.Watching.{WatchValue, hear}
use Rattle.c8_transport.specs.declared.wire.Wire.{Ghosts}
use Rattle.c8_watch.specs.Turns.{after_hearing, HasHeard, IsTurn, AreTurns}

-- ---- what was heard

pub heard_append : (w : WatchValue) (given more : List (List ℕ)) → after_hearing w (given ++ more) ≡ after_hearing (after_hearing w given) more
heard_append w [] more = refl
heard_append w (bytes ∷ given) more = heard_append (hear w (read bytes)).watch given more

module _ {W : Type 0} (wire : Ghosts W) where
  abbrev pub heard_none : (w : WatchValue) (x : W) → HasHeard wire 0 w w x x
  heard_none w x = record { given = []; received = sym (append-nil (wire.received x)); few = omega arith; has = refl; sent = refl }

  abbrev pub heard_more : (most : ℕ) (first middle : WatchValue) (before between after : W) (bytes : List ℕ)
      → HasHeard wire most first middle before between
      → wire.received after ≡ wire.received between ++ bytes ∷ [] → wire.sent after ≡ wire.sent between
      → HasHeard wire (most + 1) first (hear middle (read bytes)).watch before after
  heard_more most first middle before between after bytes heard received sent =
      let counted = length-append heard.given (bytes ∷ []) in
      record {
        given = heard.given ++ bytes ∷ [];
        received = received ∙ ap (λ (l : List (List ℕ)). l ++ bytes ∷ []) heard.received
            ∙ append_assoc (wire.received before) heard.given (bytes ∷ []);
        few = omega (arith, counted, heard.few);
        has = ap (λ (w : WatchValue). (hear w (read bytes)).watch) heard.has ∙ sym (heard_append first heard.given (bytes ∷ []));
        sent = sent ∙ heard.sent;
      }

  abbrev pub heard_still : (most : ℕ) (first last : WatchValue) (before between after : W) → HasHeard wire most first last before between
      → wire.received after ≡ wire.received between → wire.sent after ≡ wire.sent between → HasHeard wire most first last before after
  heard_still most first last before between after heard received sent =
      record { given = heard.given; received = received ∙ heard.received; few = heard.few; has = heard.has; sent = sent ∙ heard.sent }

  abbrev pub heard_fewer : (few most : ℕ) (first last : WatchValue) (before after : W) → few ≤ most
      → HasHeard wire few first last before after → HasHeard wire most first last before after
  heard_fewer few most first last before after within heard =
      record { given = heard.given; received = heard.received; few = omega (arith, heard.few, within); has = heard.has; sent = heard.sent }

  -- ---- turns

  pub turns_more : (n : ℕ) (first middle last : WatchValue) (before between after : W) → AreTurns wire n first middle before between
      → IsTurn wire middle last between after
      → AreTurns wire (n + 1) first last before after
  turns_more n first middle last before between after turns turn =
      let more : suc n ≡ n + 1 = omega arith in
      subst (λ (m : ℕ). AreTurns wire m first last before after) more (middle, between, turns, turn)

-- ---- what stays

abbrev pub TakesNothingBack : Type 0
TakesNothingBack = (w : WatchValue) (told : Result Packet WireError) → IsStillWatched w (hear w told).watch

abbrev pub Stays : Type 0
Stays = (w : WatchValue) → IsStillWatched w w

abbrev pub Chains : Type 0
Chains = (a b c : WatchValue) → IsStillWatched a b → IsStillWatched b c → IsStillWatched a c

pub still_watched : TakesNothingBack → Stays → Chains → (w : WatchValue) (given : List (List ℕ)) → IsStillWatched w (after_hearing w given)
still_watched keeps stays chains w [] = stays w
still_watched keeps stays chains w (bytes ∷ given) =
    chains w (hear w (read bytes)).watch (after_hearing (hear w (read bytes)).watch given) (keeps w (read bytes))
    (still_watched keeps stays chains (hear w (read bytes)).watch given)

abbrev pub TurnsKeep : {W : Type 0} → Ghosts W → Type 0
TurnsKeep {W} wire = (old new : WatchValue) (before after : W) → IsTurn wire old new before after → IsStillWatched old new

pub still_after_turns : {W : Type 0} (wire : Ghosts W) → TurnsKeep wire → Stays → Chains
    → (n : ℕ) (first last : WatchValue) (before after : W) → AreTurns wire n first last before after → IsStillWatched first last
still_after_turns wire keep stays chains zero first last before after are =
    subst (λ (w : WatchValue). IsStillWatched first w) (sym are.0) (stays first)
still_after_turns wire keep stays chains (suc n) first last before after are =
    chains first are.0 last (still_after_turns wire keep stays chains n first are.0 before are.1 are.2) (keep are.0 last are.1 after are.3)
