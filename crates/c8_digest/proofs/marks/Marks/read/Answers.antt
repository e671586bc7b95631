-- Mark k in the bytes is of the k-th of the last multiples of 32, and each is put after those before it.
use Rattle.std.proofs.Common.{◌≡◌, refl, subst, arith}
use Rattle.c8_digest.specs.Marks.{marks_in, marks_after}
use Rattle.c8_digest.proofs.MarkBytesLemmas.{ArePut, one_put, mark_is, next_in, all_put}
use Rattle.c8_digest.proofs.marks.Marks.read.Goals as goal

pub loop-k-init : goal.loop-k-init
loop-k-init c = record { none = λ first. refl; some = λ more. absurd (omega (arith, more)) }

pub loop-k-preserved : goal.loop-k-preserved
loop-k-preserved c =
    one_put c.args.self.now c.loop-k.self c.put.new.self (marks_in c.args.frames c.args.bytes.now) c.loop-k.k _ c.loop-k.invariant
    (next_in c.args.frames c.loop-k.k c.args.bytes.now _ (omega (arith, c.loop-k-test.true, c.marks_after-count.ensures.value))
    (mark_is c.args.frames c.loop-k.k c.marks_after-count.result _ _ c.marks_after-count.ensures.value c.mark_in.ensures)) c.put.ensures

pub returns : goal.returns
returns c =
    let all : c.loop-k.k ≡ marks_after c.args.frames = omega (arith, c.loop-k-test.false, c.loop-k.auto.k-end, c.marks_after-count.ensures.value) in
    all_put c.args.frames c.args.bytes.now c.args.self.now c.loop-k.self
    (subst (ArePut c.args.self.now c.loop-k.self (marks_in c.args.frames c.args.bytes.now)) all c.loop-k.invariant)
