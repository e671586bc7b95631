-- A gate that is not closed is written after the kept slots, and even torn it changes no kept body.
use Rattle.std.proofs.Common.{◌≡◌, [], ◌∷◌, ⊎_elim, ℕ, ◌*◌, ◌≤◌, List, length, inl, inr, refl, sym, ◌∙◌, ap, subst, arith}
use Rattle.std.proofs.lemmas.Bool.{true≢false, cond-false}
use Rattle.c8_disk.specs.Disk.{overwritten, Torn}
use Rattle.c8_log.specs.Slots.{kept, kept_count}
use Rattle.c8_log.specs.Log.{has_closed_gate, repaired}
use Rattle.c8_log.proofs.Writes.{ok_written, on_ok_both}
use Rattle.c8_log.specs.checked.Written.{IsBeforeOrTorn}
use Rattle.c8_disk.specs.checked.RunLaws.{weaker}
use Rattle.c8_log.proofs.Crash.{repair_keeps}
use Rattle.c8_log.proofs.Repair.{kept_within, length_of_kept, up_from_repair}
use Rattle.c8_disk.specs.Asks.{Asks}
use Rattle.c8_log.specs.Asked.{WriteAndSync}
use Rattle.c8_log.proofs.open.repair.Goals as goal

pub write_and_sync-requires-clause-place : goal.write_and_sync-requires-clause-place
write_and_sync-requires-clause-place g c =
    let image = g.D.Disk.seen c.args.disk.now in subst (λ (n : ℕ). 144 * n ≤ length image) (sym c.requires.count) (kept_within image)

pub returns-clause-any_moment : goal.returns-clause-any_moment
returns-clause-any_moment g c =
    let image = g.D.Disk.seen c.args.disk.now in
    let images = g.D.Disk.may_leave c.args.disk.now in
    let keeps : (new : List ℕ) → IsBeforeOrTorn (144 * c.args.end.count) 1 images new → kept new ≡ kept image =
    λ new. ⊎_elim (λ left. ap kept (c.requires.durable new left)) (λ torn.
    let torn_here = subst (λ (l : List ℕ). Torn (144 * c.args.end.count) 1 l new) (c.requires.durable torn.0 torn.1) torn.2 in
    let torn_there = subst (λ (n : ℕ). Torn (144 * n) 1 image new) c.requires.count torn_here in
    repair_keeps image new (sym c.requires.closed ∙ c.if-end.false) torn_there) in
    weaker g.D.Disk c.args.disk.now c.write_and_sync.new.disk (IsBeforeOrTorn (144 * c.args.end.count) 1 images)
    (λ new. kept new ≡ kept image) c.write_and_sync.ensures.any_moment keeps

pub returns-clause-up : goal.returns-clause-up
returns-clause-up g c =
    let old = g.D.Disk.seen c.args.disk.now in
    let new = g.D.Disk.seen c.write_and_sync.new.disk in
    let closed = overwritten old (144 * kept_count old) (0 ∷ []) in
    let written = ok_written (144 * c.args.end.count) (0 ∷ []) old new c.write_and_sync.result c.write_and_sync.ensures.written in
    on_ok_both c.write_and_sync.result written c.write_and_sync.ensures.durable (λ holds only.
    let gate : new ≡ closed = holds ∙ ap (λ (n : ℕ). overwritten old (144 * n) (0 ∷ [])) c.requires.count in
    let is : new ≡ repaired old = gate ∙ sym (cond-false (has_closed_gate old) old closed (sym c.requires.closed ∙ c.if-end.false)) in
    up_from_repair c.writes_keep_the_rest.ensures.whole g.D.Disk c.write_and_sync.new.disk c.args.end.count old is c.requires.count only
    c.requires.fits)

pub returns-clause-full : goal.returns-clause-full
returns-clause-full g c is =
    let image = g.D.Disk.seen c.args.disk.now in
    let full = c.write_and_sync.ensures.full is in
    (sym c.requires.closed ∙ c.if-end.false, omega (arith, full, length_of_kept image, c.requires.count))

pub returns-clause-no_repair : goal.returns-clause-no_repair
returns-clause-no_repair g c closed = absurd (true≢false (sym closed ∙ c.if-end.false))

pub returns-then-end-clause-asks : goal.returns-then-end-clause-asks
returns-then-end-clause-asks g c =
    let closed = sym c.requires.closed ∙ c.if-end.true in
    record { calls = []; led = refl; is = inl (closed, (refl, refl)) }

pub returns-clause-asks : goal.returns-clause-asks
returns-clause-asks g c =
    let open_gate = sym c.requires.closed ∙ c.if-end.false in
    let asks = subst (λ (n : ℕ). Asks g.D.Disk (WriteAndSync (144 * n) (0 ∷ [])) c.write_and_sync.result c.args.disk.now
    c.write_and_sync.new.disk) c.requires.count c.write_and_sync.ensures.asks in
    record { calls = asks.calls; led = asks.led; is = inr (open_gate, asks.is) }
