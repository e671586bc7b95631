-- The one slot that is read has the kept body of its number.
use Rattle.std.proofs.Common.{◌≡◌, ◌+◌, ℕ, List, slice_get, Some, sym, ap, ◌∙◌, arith}
use Rattle.c8_log.specs.Slots.{kept}
use Rattle.c8_log.proofs.log.Log.read.Goals as goal

pub returns-in-Ok-clause-body : goal.returns-in-Ok-clause-body
returns-in-Ok-clause-body g c =
    let place : c.args.n ≡ c.args.n + 0 = omega arith in
    ap (λ (m : ℕ). slice_get (kept (g.D.Disk.seen c.args.self.now.disk)) m) place ∙ c.in-Ok.ensures.bodies 0 (omega arith)
    ∙ ap (λ (body : List ℕ). Some body) (sym c.get.ensures)
