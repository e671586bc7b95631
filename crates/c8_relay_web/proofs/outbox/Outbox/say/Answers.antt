-- What was waiting stands at the front, and the new bytes behind it. Bytes are refused only where there is no room for all of them.
use Rattle.std.proofs.Common.{rules, arith, ◌++◌, ℕ, List, slice_range, ap, sym, ◌∙◌}
use Rattle.c8_relay_web.proofs.BoxLemmas.{long, said}
use Rattle.c8_relay_web.proofs.outbox.Outbox.say.Goals as goal

pub returns-clause-said : goal.returns-clause-said
returns-clause-said c =
    let e = c.make_room-last.ensures in
    let box = c.make_room-last.new.self in
    rw c.copy_from_slice.ensures.after
    (said c.make_room-last.result _ box.first box.bytes c.args.bytes.now e.first (search rules)
    ∙ ap (λ (zs : List ℕ). zs ++ c.args.bytes.now) (ap (λ (n : ℕ). slice_range box.bytes box.first n) (sym e.last) ∙ e.same))

pub returns-then-bytes-last-clause-room : goal.returns-then-bytes-last-clause-room
returns-then-bytes-last-clause-room c =
    let box = c.args.self.now in
    let size = c.make_room-last.ensures.size in
    λ no. omega (arith, size, long box.first box.last box.bytes (search rules))
