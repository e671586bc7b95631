-- The body stands behind a closed gate until its own opens, so a crash keeps the others, with it or without.
use Rattle.std.proofs.Common.{◌≡◌, inl, inr, ◌+◌, ◌*◌, ◌++◌, [], ◌∷◌, ℕ, List, length, Ok, Err, OnOk, IsErrOf, rules, ap, ◌∙◌, subst, arith}
use Rattle.std.proofs.Common.{length-append}
use Rattle.c8_disk.specs.Disk.{overwritten, Only, Torn}
use Rattle.c8_disk.specs.declared.error.DiskError.TheVariants.{Failed}
use Rattle.c8_log.specs.Slots.{kept}
use Rattle.c8_log.specs.Log.{has_closed_gate_at, IsUp, KeepsWithOrWithout}
use Rattle.c8_log.specs.checked.Written.{IsBeforeOrTorn}
use Rattle.c8_disk.specs.checked.RunLaws.{weaker, then_run}
use Rattle.c8_log.proofs.Writes.{ok_written, failed_torn, on_ok_both}
use Rattle.c8_log.proofs.Staged.{IsStaged, gate_there, staged, first_keeps, second_keeps, two_writes, up_with_it}
use Rattle.c8_log.proofs.append.add.Given.{Over}
use Rattle.std.proofs.lemmas.Result.{err_from_is_err_and}
use Rattle.c8_disk.specs.Asks.{Asks}
use Rattle.c8_disk.specs.checked.AsksLaws.{asks_as, asks_then, asks_refused}
use Rattle.c8_log.specs.Asked.{WriteAndSync}
use Rattle.c8_log.proofs.append.add.Goals as goal

pub returns-in_err-write_and_sync-clause-any_moment : goal.returns-in_err-write_and_sync-clause-any_moment
returns-in_err-write_and_sync-clause-any_moment g c =
    let images = g.D.Disk.may_leave c.args.disk.now in
    let old = g.D.Disk.seen c.args.disk.now in
    let up = c.requires.up in
    weaker g.D.Disk c.args.disk.now c.write_and_sync.new.disk (IsBeforeOrTorn (144 * c.args.count + 1) (length c.with_closed_gate.result) images)
    (KeepsWithOrWithout (kept old) c.args.body.now) c.write_and_sync.ensures.any_moment
    (first_keeps c.writes_keep_the_rest.ensures.whole c.writes_keep_the_rest.ensures.none images old c.args.count c.args.body.now
    up.count_is up.closed up.durable (length c.with_closed_gate.result))

-- what stands on the disk after the first write
abbrev staged_image : (g : Over) → goal.After-write_and_sync-2 g → List ℕ
staged_image g c = overwritten (g.D.Disk.seen c.args.disk.now) (144 * c.args.count + 1) (c.args.body.now ++ 0 ∷ [])

first_written : (g : Over) (c : goal.After-write_and_sync-2 g) → g.D.Disk.seen c.write_and_sync.new.disk ≡ staged_image g c
first_written g c =
    c.in_ok-write_and_sync.ensures.written ∙ ap (overwritten (g.D.Disk.seen c.args.disk.now) (144 * c.args.count + 1)) c.with_closed_gate.ensures

behind : (g : Over) (c : goal.After-write_and_sync-2 g) → IsStaged (g.D.Disk.seen c.args.disk.now) c.args.count c.args.body.now (staged_image g c)
behind g c =
    let old = g.D.Disk.seen c.args.disk.now in
    let there = gate_there old c.args.count (ap (λ (k : ℕ). has_closed_gate_at old k) c.requires.up.count_is ∙ c.requires.up.closed) in
    staged c.writes_keep_the_rest.ensures.whole old c.args.count c.args.body.now c.told-body (omega (arith, there))

pub returns-clause-any_moment : goal.returns-clause-any_moment
returns-clause-any_moment g c =
    let images = g.D.Disk.may_leave c.args.disk.now in
    let old = g.D.Disk.seen c.args.disk.now in
    let n = c.args.count in
    let body = c.args.body.now in
    let up = c.requires.up in
    let is = behind g c in
    let written = first_written g c in
    let first = weaker g.D.Disk c.args.disk.now c.write_and_sync.new.disk (IsBeforeOrTorn (144 * n + 1) (length c.with_closed_gate.result) images)
    (KeepsWithOrWithout (kept old) body) c.write_and_sync.ensures.any_moment
    (first_keeps c.writes_keep_the_rest.ensures.whole c.writes_keep_the_rest.ensures.none images old n body up.count_is up.closed
    up.durable (length c.with_closed_gate.result)) in
    let later = g.D.Disk.may_leave c.write_and_sync.new.disk in
    let only = subst (λ (l : List ℕ). Only l later) written c.in_ok-write_and_sync.ensures.durable in
    let second = weaker g.D.Disk c.write_and_sync.new.disk c.write_and_sync-2.new.disk (IsBeforeOrTorn (144 * n) 1 later)
    (KeepsWithOrWithout (kept old) body) c.write_and_sync-2.ensures.any_moment
    (second_keeps c.writes_keep_the_rest.ensures.whole c.writes_keep_the_rest.ensures.none images old n body up.count_is up.closed
    up.durable (staged_image g c) is later only) in
    then_run g.D.Disk c.args.disk.now c.write_and_sync.new.disk c.write_and_sync-2.new.disk (KeepsWithOrWithout (kept old) body) first second

pub returns-in_err-write_and_sync-clause-left : goal.returns-in_err-write_and_sync-clause-left
returns-in_err-write_and_sync-clause-left g c is =
    let old = g.D.Disk.seen c.args.disk.now in
    let new = g.D.Disk.seen c.write_and_sync.new.disk in
    let at = 144 * c.args.count + 1 in
    let size : length c.with_closed_gate.result ≡ 144 =
    omega (arith, ap length c.with_closed_gate.ensures, length-append c.args.body.now (0 ∷ []), c.told-body) in
    let failed : IsErrOf c.write_and_sync.result Failed = search rules in
    inl (subst (λ (n : ℕ). Torn at n old new) size
    (failed_torn at c.with_closed_gate.result old new c.write_and_sync.result c.write_and_sync.ensures.written failed))

pub returns-clause-left : goal.returns-clause-left
returns-clause-left g c is =
    let staged = g.D.Disk.seen c.write_and_sync.new.disk in
    let new = g.D.Disk.seen c.write_and_sync-2.new.disk in
    let gate = 144 * c.args.count in
    inr (subst (λ (l : List ℕ). Torn gate 1 l new) (first_written g c)
    (failed_torn gate (0xa5 ∷ []) staged new c.write_and_sync-2.result c.write_and_sync-2.ensures.written is))

gate_written : (g : Over) (c : goal.After-write_and_sync-2 g)
    → OnOk c.write_and_sync-2.result (g.D.Disk.seen c.write_and_sync-2.new.disk
    ≡ overwritten (g.D.Disk.seen c.write_and_sync.new.disk) (144 * c.args.count) (0xa5 ∷ []))
gate_written g c = ok_written (144 * c.args.count) (0xa5 ∷ []) (g.D.Disk.seen c.write_and_sync.new.disk)
    (g.D.Disk.seen c.write_and_sync-2.new.disk) c.write_and_sync-2.result c.write_and_sync-2.ensures.written

-- and after the second
ended : (g : Over) (c : goal.After-write_and_sync-2 g)
    → g.D.Disk.seen c.write_and_sync-2.new.disk ≡ overwritten (g.D.Disk.seen c.write_and_sync.new.disk) (144 * c.args.count) (0xa5 ∷ [])
    → Only (g.D.Disk.seen c.write_and_sync-2.new.disk) (g.D.Disk.may_leave c.write_and_sync-2.new.disk)
    → IsUp g.D.Disk c.write_and_sync-2.new.disk (c.args.count + 1)
    × (kept (g.D.Disk.seen c.write_and_sync-2.new.disk) ≡ kept (g.D.Disk.seen c.args.disk.now) ++ c.args.body.now ∷ [])
ended g c holds only =
    let up = c.requires.up in
    up_with_it c.writes_keep_the_rest.ensures.whole c.writes_keep_the_rest.ensures.none (g.D.Disk.may_leave c.args.disk.now)
    (g.D.Disk.seen c.args.disk.now) c.args.count c.args.body.now up.count_is up.closed up.durable (staged_image g c) (behind g c)
    g.D.Disk c.write_and_sync-2.new.disk
    (holds ∙ ap (λ (l : List ℕ). overwritten l (144 * c.args.count) (0xa5 ∷ [])) (first_written g c)) only c.requires.fits

pub returns-clause-up : goal.returns-clause-up
returns-clause-up g c = on_ok_both c.write_and_sync-2.result (gate_written g c) c.write_and_sync-2.ensures.durable
    (λ holds only. (ended g c holds only).0)

pub returns-clause-kept : goal.returns-clause-kept
returns-clause-kept g c = on_ok_both c.write_and_sync-2.result (gate_written g c) c.write_and_sync-2.ensures.durable
    (λ holds only. (ended g c holds only).1)

pub returns-clause-seen : goal.returns-clause-seen
returns-clause-seen g c =
    let old = g.D.Disk.seen c.args.disk.now in
    let gate = 144 * c.args.count in
    let there = gate_there old c.args.count (ap (λ (k : ℕ). has_closed_gate_at old k) c.requires.up.count_is ∙ c.requires.up.closed) in
    on_ok_both c.write_and_sync-2.result (gate_written g c) c.write_and_sync-2.ensures.durable (λ holds only.
    holds ∙ ap (λ (l : List ℕ). overwritten l gate (0xa5 ∷ [])) (first_written g c)
    ∙ two_writes c.writes_keep_the_rest.ensures.whole old gate 0xa5 (c.args.body.now ++ 0 ∷ []) (omega (arith, there)))

pub returns-in_err-write_and_sync-clause-asks : goal.returns-in_err-write_and_sync-clause-asks
returns-in_err-write_and_sync-clause-asks g c =
    let error = err_from_is_err_and c.from_residual.result c.from_residual.ensures.1 in
    let why = c.in_err-write_and_sync.field-0.0 in
    rw (error.1, error.2)
    (asks_refused g.D.Disk (WriteAndSync (144 * c.args.count + 1) (c.args.body.now ++ 0 ∷ []))
    (WriteAndSync (144 * c.args.count) (0xa5 ∷ [])) c.args.disk.now c.write_and_sync.new.disk why
    (asks_as g.D.Disk (WriteAndSync (144 * c.args.count + 1) (c.args.body.now ++ 0 ∷ [])) c.args.disk.now c.write_and_sync.new.disk
    c.write_and_sync.result (Err why) c.in_err-write_and_sync.was
    (subst (λ (bytes : List ℕ). Asks g.D.Disk (WriteAndSync (144 * c.args.count + 1) bytes) c.write_and_sync.result c.args.disk.now
    c.write_and_sync.new.disk) c.with_closed_gate.ensures c.write_and_sync.ensures.asks)))

pub returns-clause-asks : goal.returns-clause-asks
returns-clause-asks g c =
    asks_then g.D.Disk (WriteAndSync (144 * c.args.count + 1) (c.args.body.now ++ 0 ∷ [])) (WriteAndSync (144 * c.args.count) (0xa5 ∷ []))
    c.args.disk.now c.write_and_sync.new.disk c.write_and_sync-2.new.disk c.write_and_sync-2.result
    (asks_as g.D.Disk (WriteAndSync (144 * c.args.count + 1) (c.args.body.now ++ 0 ∷ [])) c.args.disk.now c.write_and_sync.new.disk
    c.write_and_sync.result (Ok tt) c.in_ok-write_and_sync.was
    (subst (λ (bytes : List ℕ). Asks g.D.Disk (WriteAndSync (144 * c.args.count + 1) bytes) c.write_and_sync.result c.args.disk.now
    c.write_and_sync.new.disk) c.with_closed_gate.ensures c.write_and_sync.ensures.asks))
    c.write_and_sync-2.ensures.asks
