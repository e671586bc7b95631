-- An allowed piece is the next one and has its length, so its bytes fit right behind those taken before.
use Rattle.std.proofs.Common.{refl, ap, ◌∙◌, ◌++◌, take, drop, length, ℕ, ◌+◌, arith}
use Rattle.c8_record.proofs.CheckLemmas.{is_next, piece_taken}
use Rattle.c8_record.specs.checked.PieceLaws.{piece_ends, before_within}
use Rattle.c8_record.proofs.checks.Checks.take.Goals as goal

pub before_piece-requires : goal.before_piece-requires
before_piece-requires c = let next = is_next c.args.self.now c.requires.0 c.args.frames c.args.piece c.args.bytes.now c.requires.1 in
    omega (arith, next.within)

pub put_at-requires : goal.put_at-requires
put_at-requires c =
    let next = is_next c.args.self.now c.requires.0 c.args.frames c.args.piece c.args.bytes.now c.requires.1 in
    omega (
      arith,
      c.before_piece.ensures,
      next.long,
      piece_ends c.args.piece next.within,
      before_within (c.args.piece + 1) (omega (arith, next.within)),
    )

pub returns : goal.returns
returns c =
    let next = is_next c.args.self.now c.requires.0 c.args.frames c.args.piece c.args.bytes.now c.requires.1 in
    let put = c.put_at.ensures ∙ ap (λ (place : ℕ). take place c.args.self.now.bytes ++ c.args.bytes.now ++ drop
    (place + length c.args.bytes.now) c.args.self.now.bytes) c.before_piece.ensures in
    rw (piece_taken c.args.self.now c.args.frames c.args.piece c.args.bytes.now c.put_at.new.out next (omega arith) put) refl
