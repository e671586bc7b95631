-- The first block that is not wholly open has the end, so reads stop there; without one all slots are kept.
use Rattle.std.proofs.Common.{◌≡◌, ◌<◌, ◌≤◌, ◌+◌, ◌*◌, ℕ, List, length, Ok, Err, ◌∙◌, ap, subst, rules, arith}
use Rattle.std.proofs.lemmas.Result.{err_from_is_err_and}
use Rattle.c8_disk.specs.checked.RunLaws.{reads_then}
use Rattle.c8_disk.specs.Asks.{Asks, Reads, answer_of}
use Rattle.c8_disk.specs.checked.AsksLaws.{asks_no_read, asks_reads, asks_cut, asks_as}
use Rattle.c8_log.specs.Asked.{blocks_to_gate}
use Rattle.c8_log.specs.Slots.{kept_count}
use Rattle.c8_log.specs.Log.{has_closed_gate}
use Rattle.c8_log.proofs.Blocks.{block, AreOpen, count_there, closed_there, all_open, few}
use Rattle.c8_log.proofs.Kept.{front_of, front_unique, shut_by_end}
use Rattle.c8_log.proofs.Repair.{kept_within}
use Rattle.c8_log.proofs.end.read_end.Goals as goal

-- a block that is there, after others that are wholly open, is one of those up to the gate
block_to_gate : (image : List ℕ) (k : ℕ) → AreOpen image (32 * k) → 4608 * k < length image → k + 1 ≤ blocks_to_gate image
block_to_gate image k below there = let le = few image (32 * k) below in omega (arith, le, there)

-- and the last of them, where it ends the kept slots
last_to_gate : (image : List ℕ) (k : ℕ) → 4608 * k < length image → 32 * k ≤ kept_count image → kept_count image < 32 * k + 32
    → k + 1 ≡ blocks_to_gate image
last_to_gate image k there le ends = omega (arith, there, le, ends)

-- where all blocks are wholly open, nothing stands after them
all_kept : (image : List ℕ) (k : ℕ) → AreOpen image (32 * k) → length image ≤ 4608 * k → 32 * k ≡ kept_count image
all_kept image k below end = front_unique image (32 * k) (kept_count image)
    (record { below = below; at = shut_by_end image (32 * k) (omega (arith, end)) }) (front_of image)

pub loop-number-init : goal.loop-number-init
loop-number-init g c = record {
  below = λ m lt. absurd (omega (arith, lt));
  reads = search rules;
  asks = asks_no_read g.D.Disk c.args.disk.now;
  unfailed = search rules;
}

pub loop-number-preserved : goal.loop-number-preserved
loop-number-preserved g c =
    let image = g.D.Disk.seen c.args.disk.now in
    let k = c.loop-number.number in
    let there = c.in_ok-end.ensures.count ∙ ap (λ (l : List ℕ). kept_count (block l k)) c.loop-number.invariant.reads.seen in
    record {
      below = all_open image k c.loop-number.invariant.below (omega (arith, there, c.if-end.false));
      reads = reads_then g.D.Disk c.args.disk.now c.loop-number.disk c.end_in.new.disk c.loop-number.invariant.reads c.end_in.ensures.reads;
      asks = asks_reads g.D.Disk c.args.disk.now c.loop-number.disk c.end_in.new.disk k 1 (Ok tt) c.loop-number.invariant.asks
          (asks_as g.D.Disk (Reads 1) c.loop-number.disk c.end_in.new.disk (answer_of c.end_in.result) (Ok tt)
          (ap answer_of c.in_ok-end.was) c.end_in.ensures.asks);
      unfailed = search rules;
    }

pub returns-then-end-clause-count : goal.returns-then-end-clause-count
returns-then-end-clause-count g c =
    let image = g.D.Disk.seen c.args.disk.now in
    let k = c.loop-number.number in
    let there = c.in_ok-end.ensures.count ∙ ap (λ (l : List ℕ). kept_count (block l k)) c.loop-number.invariant.reads.seen in
    ap (λ (n : ℕ). 32 * k + n) there ∙ count_there image k c.loop-number.invariant.below (omega (arith, there, c.if-end.true))

pub returns-then-end-clause-closed : goal.returns-then-end-clause-closed
returns-then-end-clause-closed g c =
    let image = g.D.Disk.seen c.args.disk.now in
    let k = c.loop-number.number in
    let there = c.in_ok-end.ensures.count ∙ ap (λ (l : List ℕ). kept_count (block l k)) c.loop-number.invariant.reads.seen in
    c.in_ok-end.ensures.closed ∙ ap (λ (l : List ℕ). has_closed_gate (block l k)) c.loop-number.invariant.reads.seen
    ∙ closed_there image k c.loop-number.invariant.below (omega (arith, there, c.if-end.true))

pub returns-then-end-clause-fits : goal.returns-then-end-clause-fits
returns-then-end-clause-fits g c =
    let image = g.D.Disk.seen c.args.disk.now in
    let count = returns-then-end-clause-count g c in
    let within = kept_within image in
    let long = c.len-length.ensures in
    omega (arith, count, within, long)

pub returns-in_err-end-clause-asks : goal.returns-in_err-end-clause-asks
returns-in_err-end-clause-asks g c =
    let error = err_from_is_err_and c.from_residual.result c.from_residual.ensures.1 in
    let image = g.D.Disk.seen c.args.disk.now in
    let k = c.loop-number.number in
    let why = c.in_err-end.field-0.0 in
    let long = c.len-length.ensures in
    let blocks = c.div_ceil-number-end.ensures in
    let here = c.loop-number-test.true in
    rw (error.1, error.2)
    (asks_cut g.D.Disk c.args.disk.now c.end_in.new.disk (k + 1) (blocks_to_gate image) why
    (block_to_gate image k c.loop-number.invariant.below (omega (arith, long, blocks, here)))
    (asks_reads g.D.Disk c.args.disk.now c.loop-number.disk c.end_in.new.disk k 1 (Err why) c.loop-number.invariant.asks
    (asks_as g.D.Disk (Reads 1) c.loop-number.disk c.end_in.new.disk (answer_of c.end_in.result) (Err why) (ap answer_of c.in_err-end.was)
    c.end_in.ensures.asks)))

pub returns-then-end-clause-asks : goal.returns-then-end-clause-asks
returns-then-end-clause-asks g c =
    let image = g.D.Disk.seen c.args.disk.now in
    let k = c.loop-number.number in
    let there = c.in_ok-end.ensures.count ∙ ap (λ (l : List ℕ). kept_count (block l k)) c.loop-number.invariant.reads.seen in
    let count = returns-then-end-clause-count g c in
    let long = c.len-length.ensures in
    let blocks = c.div_ceil-number-end.ensures in
    let here = c.loop-number-test.true in
    subst (λ (n : ℕ). Asks g.D.Disk (Reads n) (Ok tt) c.args.disk.now c.end_in.new.disk)
    (last_to_gate image k (omega (arith, long, blocks, here)) (omega (arith, count)) (omega (arith, count, c.if-end.true)))
    (asks_reads g.D.Disk c.args.disk.now c.loop-number.disk c.end_in.new.disk k 1 (Ok tt) c.loop-number.invariant.asks
    (asks_as g.D.Disk (Reads 1) c.loop-number.disk c.end_in.new.disk (answer_of c.end_in.result) (Ok tt) (ap answer_of c.in_ok-end.was)
    c.end_in.ensures.asks))

pub returns-clause-count : goal.returns-clause-count
returns-clause-count g c =
    let image = g.D.Disk.seen c.args.disk.now in
    let count = all_kept image c.loop-number.number c.loop-number.invariant.below in
    let within = kept_within image in
    let long = c.len-length.ensures in
    let blocks = c.div_ceil-number-end.ensures in
    let end = c.loop-number-test.false in
    let all = count (omega (arith, long, blocks, end)) in
    omega (arith, all, within, long, blocks, end)

pub returns-clause-asks : goal.returns-clause-asks
returns-clause-asks g c =
    let image = g.D.Disk.seen c.args.disk.now in
    let k = c.loop-number.number in
    let within = kept_within image in
    let long = c.len-length.ensures in
    let blocks = c.div_ceil-number-end.ensures in
    let end = c.loop-number-test.false in
    let last = c.loop-number.auto.number-end in
    let all = all_kept image k c.loop-number.invariant.below (omega (arith, long, blocks, end)) in
    subst (λ (n : ℕ). Asks g.D.Disk (Reads n) (Ok tt) c.args.disk.now c.loop-number.disk)
    (omega (arith, all, within, long, blocks, end, last)) c.loop-number.invariant.asks
