-- A datagram that cannot be sealed is left out; the first that can is the next packet; after the last one nothing is left.
use Rattle.std.proofs.Common.{◌+◌, ◌∷◌, ◌++◌, [], take, refl, arith}
use Rattle.std.proofs.lemmas.List.Elements.{All-nil}
use Rattle.c8_embed.specs.Endpoint.{IsLeftOut}
use Rattle.c8_embed.specs.declared.endpoint.Endpoint.{Endpoint}
use Rattle.c8_embed.proofs.PacketLemmas.{passed_on, left_out_more, one_longer, order_more, few_more, too_many, next_is, none_is}
use Rattle.c8_embed.proofs.endpoint.Endpoint.next_packet.Goals as goal

pub loop-passed-init : goal.loop-passed-init
loop-passed-init c = record {
  same = record { engine = refl; sealer = refl; number = refl; replay = refl; sender = refl };
  before = [];
  left_out = All-nil (IsLeftOut c.args.self.now);
  each = refl;
  in_order = refl;
  few = λ some. absurd (omega (arith, some));
}

pub returns-in_err-to-clause-none : goal.returns-in_err-to-clause-none
returns-in_err-to-clause-none c = λ done.
    let here = c.loop-passed.self in
    let so_far = c.loop-passed.invariant in
    let new : Endpoint = record here { engine = c.next_datagram.new.self } in
    none_is c.args.self.now here new so_far.before so_far.same so_far.left_out so_far.in_order
    (record { engine = c.next_datagram.ensures.spoken; sealer = refl; number = refl; replay = refl; sender = refl })
    (c.next_datagram.ensures.over c.in_err-to.was)

pub returns-in-Some-clause-next : goal.returns-in-Some-clause-next
returns-in-Some-clause-next c =
    let here = c.loop-passed.self in
    let so_far = c.loop-passed.invariant in
    let new : Endpoint = record here { engine = c.next_datagram.new.self; sealer = c.wrap.new.sealer } in
    let said = c.in_ok-to.ensures.said in
    next_is c.args.self.now here new so_far.before said.0 c.in_ok-to.to.number c.in-Some.size (take c.in_ok-to.size c.next_datagram.new.out)
    c.wrap.new.out so_far.same so_far.left_out so_far.in_order c.next_datagram.ensures.spoken said.3 said.1 said.2 c.in-Some.ensures.wrapped
    refl refl refl

pub loop-passed-preserved : goal.loop-passed-preserved
loop-passed-preserved c =
    let old = c.args.self.now in
    let here = c.loop-passed.self in
    let so_far = c.loop-passed.invariant in
    let new : Endpoint = record here { engine = c.next_datagram.new.self; sealer = c.wrap.new.sealer } in
    let said = c.in_ok-to.ensures.said in
    record {
      same =
          passed_on old here new so_far.same
          (record { engine = c.next_datagram.ensures.spoken; sealer = c.in_default.ensures.wrapped.0; number = refl; replay = refl; sender = refl });
      before = so_far.before ++ said.0 ∷ [];
      left_out =
          left_out_more old here so_far.before said.0 (take c.in_ok-to.size c.next_datagram.new.out) so_far.same so_far.left_out said.2
          c.in_default.ensures.wrapped.1;
      each = one_longer so_far.before said.0 c.loop-passed._passed so_far.each;
      in_order = order_more so_far.before here.engine.left new.engine.left old.engine.left said.0 so_far.in_order said.3;
      few = λ some.
          few_more so_far.before here.engine.left old.engine.left c.loop-passed._passed so_far.each so_far.in_order so_far.few
          c.next_datagram.ensures.few;
    }

pub returns-clause-none : goal.returns-clause-none
returns-clause-none c = λ done.
    let so_far = c.loop-passed.invariant in
    let past = c.loop-passed-test.false in
    absurd (too_many so_far.before c.loop-passed.self.engine.left c.args.self.now.engine.left c.loop-passed._passed so_far.each so_far.in_order
    so_far.few (omega (arith, past)))
