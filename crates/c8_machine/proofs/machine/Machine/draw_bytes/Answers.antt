-- The bytes loaded from I on are the rows of the sprite in memory, so the same points are flipped and met.
use Rattle.std.proofs.Common.{◌≡◌, ◌%◌, ap, ◌∙◌, arith}
use Rattle.c8_screen.specs.Points.{Points, points_of, sprite, clipped, exclusive_or, meets}
use Rattle.c8_machine.specs.State.{state}
use Rattle.c8_machine.specs.Steps.{byte_at}
use Rattle.c8_machine.proofs.MemoryLemmas.{sprite_loaded}
use Rattle.c8_machine.proofs.machine.Machine.draw_bytes.Goals as goal

pub returns-clause-put_out : goal.returns-clause-put_out
returns-clause-put_out c =
    c.draw.ensures.put_out ∙ ap (λ (points : Points). meets (points_of c.args.self.now.screen) (clipped points))
    (sprite_loaded (byte_at (state c.args.self.now)) c.load.new.bytes c.from.result c.args.rows (c.args.x % 64) (c.args.y % 32)
    (omega arith) (omega arith) c.load.ensures)

pub returns-clause-screen : goal.returns-clause-screen
returns-clause-screen c =
    let points : points_of c.draw.new.self ≡ exclusive_or (points_of c.args.self.now.screen)
    (clipped (sprite c.args.rows (byte_at (state c.args.self.now)) (c.args.x % 64) (c.args.y % 32))) =
    c.draw.ensures.points ∙ ap (λ (points : Points). exclusive_or (points_of c.args.self.now.screen) (clipped points))
    (sprite_loaded (byte_at (state c.args.self.now)) c.load.new.bytes c.from.result c.args.rows (c.args.x % 64) (c.args.y % 32)
    (omega arith) (omega arith) c.load.ensures) in
    ap (λ (points : Points). record (state c.args.self.now) { screen = points }) points
