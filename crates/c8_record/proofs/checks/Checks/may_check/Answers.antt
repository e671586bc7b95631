-- A digest is allowed exactly if all pieces are there, it is theirs, and their bytes are those of a machine.
use Rattle.std.proofs.Common.{◌≡◌, sym, ◌∙◌, arith}
use Rattle.std.proofs.lemmas.Bool.{both_ways, not-true, not-false}
use Rattle.std.proofs.lemmas.Slice.Eq.{bytes_eq-Decides}
use Rattle.c8_record.specs.Checks.{digest_of}
use Rattle.c8_record.proofs.CheckLemmas.{may_check, is_whole, some_machine, not_none}
use Rattle.c8_record.proofs.checks.Checks.may_check.Goals as goal

pub returns-then-ne : goal.returns-then-ne
returns-then-ne c = (
  λ never. absurd cc,
  λ may.
      let whole = is_whole c.args.self.now c.args.frames c.args.digest.now (omega arith) may in
      let same : c.as_slice.result.now ≡ digest_of c.args.self.now.bytes = c.as_slice.ensures ∙ c.digest_of.ensures in
      let equal = (bytes_eq-Decides c.args.digest.now c.as_slice.result.now).1 (whole.digest_is ∙ sym same) in
      absurd (both_ways _ (not-true _ (sym c.ne.ensures ∙ c.if-ne.true)) equal),
)

pub returns : goal.returns
returns c =
    let same : c.as_slice.result.now ≡ digest_of c.args.self.now.bytes = c.as_slice.ensures ∙ c.digest_of.ensures in
    let digest = (bytes_eq-Decides c.args.digest.now c.as_slice.result.now).0 (not-false _ (sym c.ne.ensures ∙ c.if-ne.false)) ∙ same in (
      λ some.
          let found = some_machine c.machine_in.result _ c.is_some.result c.is_some.ensures some c.machine_in.ensures.found in
          may_check c.args.self.now c.args.frames c.args.digest.now found.0 (omega (arith, c.if-self-ne-PIECES.false)) (omega arith)
          (omega (arith, c.if-frames-self.false)) digest found.1,
      λ may.
          let whole = is_whole c.args.self.now c.args.frames c.args.digest.now (omega arith) may in
          not_none c.machine_in.result c.is_some.result c.is_some.ensures
          (λ none. c.machine_in.ensures.none none whole.machine whole.machine_is whole.spelled),
    )
