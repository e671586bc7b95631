-- The first slot that is not open ends the kept ones, or else the last whole slot does.
use Rattle.std.proofs.Common.{◌/◌, length, sym, ◌∙◌, arith}
use Rattle.c8_log.specs.Slots.{kept_count}
use Rattle.c8_log.proofs.Kept.{front_of, front_unique, shut_by_end}
use Rattle.c8_log.proofs.Repair.{length_of_kept}
use Rattle.c8_log.proofs.image.kept_len.Goals as goal

pub returns-then-not-stands_open : goal.returns-then-not-stands_open
returns-then-not-stands_open c =
    let image = c.args.image.now in
    let shut = sym c.stands_open.ensures ∙ c.if-not-stands_open.true in
    front_unique image c.loop-n.n (kept_count image) (record { below = c.loop-n.invariant; at = shut }) (front_of image) ∙ sym (length_of_kept image)

pub returns : goal.returns
returns c =
    let image = c.args.image.now in
    let whole = length image / 144 in
    front_unique image whole (kept_count image)
    (record { below = λ m lt. c.loop-n.invariant m (omega arith); at = shut_by_end image whole (omega arith) }) (front_of image)
    ∙ sym (length_of_kept image)
