-- What a wire that seals gives and takes.
use Rattle.std.proofs.Common.{◌≡◌, ℕ, List, [], ◌∷◌, ◌++◌, take, Result, Ok, Option, Some, refl, sym, ap, ◌∙◌, subst, append_assoc}
use Rattle.std.proofs.lemmas.List.{append-nil}
use Rattle.c8_transport.specs.declared.wire.Wire.{Ghosts}
use Rattle.c8_transport.specs.Wire.{MayTake, Gives}
use Rattle.c8_transport.specs.declared.error.NotTaken.{NotTaken}
use Rattle.c8_transport.specs.Given.{GivenValue}
use Rattle.c8_transport.specs.Opened.{opened}
use Rattle.c8_transport.specs.Sealer.{SealerValue, HasSealed, IsTaking}
use Rattle.c8_transport.specs.Wires.{HasOpened, HasPassed}
use Rattle.c8_transport.proofs.SealedLemmas.{may_take}
use Rattle.c8_transport.proofs.SealerLemmas.{takings_more}

module _ {W : Type 0} (wire : Ghosts W) where
  -- nothing was given yet
  pub nothing_opened : (s : SealerValue) (w : W) → HasOpened wire s s w w
  nothing_opened s w = record { came = []; received = sym (append-nil (wire.received w)); takings = refl; sent = refl }

  -- the wire below gave one packet more, which was judged
  pub one_opened : (old middle new : SealerValue) (first before after : W) (packet : List ℕ) (answer : Result GivenValue NotTaken)
      → HasOpened wire old middle first before
      → wire.received after ≡ wire.received before ++ packet ∷ [] → wire.sent after ≡ wire.sent before → IsTaking middle packet answer new
      → HasOpened wire old new first after
  one_opened old middle new first before after packet answer done more same is = record {
    came = done.came ++ packet ∷ [];
    received = more ∙ ap (λ (packets : List (List ℕ)). packets ++ packet ∷ []) done.received
        ∙ append_assoc (wire.received first) done.came (packet ∷ []);
    takings = takings_more done.came packet old middle new answer done.takings is;
    sent = same ∙ done.sent;
  }

  -- in the words of the calls
  pub next_opened : (old middle new : SealerValue) (first before given after : W) (buffer : List ℕ) (size : ℕ) (next : Option ℕ)
      (answer : Result GivenValue NotTaken) → HasOpened wire old middle first before
      → next ≡ Some size → Gives (wire.received before) buffer (Ok next) (wire.received given) → wire.sent given ≡ wire.sent before
      → wire.received after ≡ wire.received given → wire.sent after ≡ wire.sent given
      → IsTaking middle (take size buffer) answer new → HasOpened wire old new first after
  next_opened old middle new first before given after buffer size next answer done is gives sent kept same takes =
      one_opened old middle new first before after (take size buffer) answer done
      (kept ∙ subst (λ (o : Option ℕ). Gives (wire.received before) buffer (Ok o) (wire.received given)) is gives) (same ∙ sent) takes

  -- a packet was sealed, and given to the wire below
  pub sealed_passed : (old new : SealerValue) (datagram out : List ℕ) (size : ℕ) (before after : W) → HasSealed old datagram out size new
      → MayTake (wire.sent before) (take size out) (wire.sent after) → wire.received after ≡ wire.received before
      → HasPassed wire old new datagram before after
  sealed_passed old new datagram out size before after sealed takes received =
      record { out = out; answer = Ok size; passed = (sealed, takes); received = received }

pub may_take_sealed : (old new : SealerValue) (datagram out : List ℕ) (size : ℕ) (before after : List (List ℕ))
    → HasSealed old datagram out size new → MayTake before (take size out) after
    → MayTake (opened old.seal.keys before) datagram (opened new.seal.keys after)
may_take_sealed old new datagram out size before after sealed takes =
    subst (λ (s : SealerValue). MayTake (opened old.seal.keys before) datagram (opened s.seal.keys after)) (sym sealed.used)
    (may_take old.seal.keys before after sealed.key old.next datagram (take size out) sealed.has sealed.within sealed.packet takes)
