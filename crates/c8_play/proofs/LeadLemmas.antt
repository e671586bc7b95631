-- A frame of a player who may be ahead, by the answer of `leaves_out`.
use Rattle.std.proofs.Common.{◌≡◌, ◌≤◌, ◌↔◌, ℕ, ◌+◌, Bool, true, false, IsTrue, subst}
use Rattle.c8_peer.specs.Peer.{PeerValue}
use Rattle.c8_play.specs.Lead.{IsAhead, HasLed}

module _ {D : Type 0} (window patience : ℕ) (peer : PeerValue D) (out : Bool) (before after : ℕ) where
  -- the answer decides whether the tick is left out
  abbrev pub Judged : Type 0
  Judged = IsTrue out ↔ (IsAhead window peer × (patience ≤ before + 1))

  pub led_out : out ≡ true → Judged → (IsTrue out → after ≡ 0) → HasLed window patience peer true false before after
  led_out is judged anew =
      let none : after ≡ 0 = anew is in
      record {
        left_out = subst (λ (b : Bool). IsTrue b ↔ (IsAhead window peer × (patience ≤ before + 1))) is judged;
        counted = λ ahead taken. cc taken;
        behind = λ not. none;
        waited = λ same. none;
      }

  pub led_taken : out ≡ false → Judged → (¬ IsAhead window peer → after ≡ 0) → (IsAhead window peer → out ≡ false → after ≡ before + 1)
      → HasLed window patience peer false true before after
  led_taken is judged behind counted =
      record {
        left_out = subst (λ (b : Bool). IsTrue b ↔ (IsAhead window peer × (patience ≤ before + 1))) is judged;
        counted = λ ahead taken. counted ahead is;
        behind = behind;
        waited = λ same. cc same;
      }

  pub led_refused : out ≡ false → Judged → after ≡ 0 → HasLed window patience peer false false before after
  led_refused is judged none =
      record {
        left_out = subst (λ (b : Bool). IsTrue b ↔ (IsAhead window peer × (patience ≤ before + 1))) is judged;
        counted = λ ahead taken. cc taken;
        behind = λ not. none;
        waited = λ same. none;
      }

-- for the same peer
pub led_at : {D : Type 0} (window patience : ℕ) (seen peer : PeerValue D) (out taken : Bool) (before after : ℕ) → seen ≡ peer
    → HasLed window patience seen out taken before after → HasLed window patience peer out taken before after
led_at window patience seen peer out taken before after same led =
    subst (λ (p : PeerValue _). HasLed window patience p out taken before after) same led
