-- One more call, torn, and then those left, torn, are the calls left before, torn.
use Rattle.std.proofs.Common.{◌≡◌, ◌+◌, ◌∷◌, [], List, drop, get_or, vec_capacity, refl, sym, ◌∙◌, ap, subst, arith}
use Rattle.c8_disk.specs.Past.{fit, TornBy}
use Rattle.c8_disk.specs.declared.call.Call.{Call}
use Rattle.c8_disk.specs.declared.call.Call.TheVariants.{Write}
use Rattle.c8_disk.proofs.Calls.{rest, others_fit, torn_cons}
use Rattle.c8_disk.proofs.call.tear_all.Goals as goal

pub loop-call-preserved : goal.loop-call-preserved
loop-call-preserved c =
    let calls = c.args.calls.now in
    let i = c.loop-call.call-index in
    let call = get_or calls i (Write 0 0 []) in
    let left : drop i calls ≡ call ∷ drop (i + 1) calls = rest calls i call c.loop-call-test.true refl in
    record {
      rest = λ new torn. c.loop-call.invariant.rest new
          (subst (λ (l : List Call). TornBy l c.loop-call.file.items new) (sym left)
          (torn_cons call (drop (i + 1) calls) c.loop-call.file.items c.tear_one.new.file.items new c.tear_one.ensures.torn torn));
      fits = others_fit (vec_capacity c.args.file.now) call (drop (i + 1) calls)
          (ap (fit (vec_capacity c.args.file.now)) (sym left) ∙ c.loop-call.invariant.fits);
      capacity = omega arith;
    }
