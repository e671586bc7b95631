-- The putter sees each free place, and the taker, which looks next, each packet inside.
use Rattle.std.proofs.Common.{arith, ◌≡◌, ℕ, length, length-append, ap, ◌∙◌, sym}
use Rattle.rtrb.specs.Ring.{known_free, received, known_items}
use Rattle.c8_live.proofs.ends.beside.Goals as goal

pub returns-clause-free : goal.returns-clause-free
returns-clause-free c =
    let putter = c.slots_beside.new.self in
    let end = c.slots_beside-2.new.producer in
    let taker = c.slots_beside-2.new.self in
    let looked = c.slots_beside-2.ensures.producer in
    let places : end.end.names.0 ≡ putter.capacity = ap (λ (names : ℕ × (ℕ × ℕ)). names.0) looked.0.0.2 ∙ sym putter.writes.2 in
    let free : c.slots_beside.result ≡ known_free putter = c.slots_beside.ensures.value in
    let all = c.slots_beside.ensures.all_free in
    let taken = ap length c.slots_beside-2.ensures.looked.1 in
    let put = ap length looked.1 in
    let inside = ap length c.slots_beside-2.ensures.fifo ∙ put in
    let counts = length-append (received taker) (known_items taker) in
    omega (arith, looked.2, c.slots_beside-2.ensures.value)
