-- Arming a disk changes no peer, so an act on a disk that fails once is that act in the world.
use Rattle.std.proofs.Common.{ℕ, [], ◌∷◌, subst}
use Rattle.c8_disk.specs.declared.disk.Arm.TheVariants as arms
use Rattle.c8_world.specs.World.{Do}
use Rattle.c8_world.specs.Events.{act_of}
use Rattle.c8_world.specs.Disks.{AreArmed, for_player}
use Rattle.c8_world.proofs.DiskLemmas.{are_armed_round}
use Rattle.c8_world.proofs.StopLemmas.{happened_from, happened_till, unhappened_from, with_ok, with_err}
use Rattle.c8_world.proofs.table.Table.fail.Goals as goal

pub returns-clause-happened : goal.returns-clause-happened
returns-clause-happened c =
    let old = c.args.self.now in
    let armed = c.arm.new.self in
    let acted = c.act-result.new.self in
    let new = c.arm-2.new.self in
    with_ok _ _ c.act-result.result
    (λ answer happens w holds. happened_till old acted new w (Do (act_of c.args.act)) answer
    (happened_from old armed acted w (Do (act_of c.args.act)) answer c.arm.ensures.same (happens w (c.arm.ensures.armed.holds w holds)))
    c.arm-2.ensures.armed.holds)
    c.act-result.ensures.happened

pub returns-clause-memory : goal.returns-clause-memory
returns-clause-memory c =
    let old = c.args.self.now in
    let armed = c.arm.new.self in
    let acted = c.act-result.new.self in
    let new = c.arm-2.new.self in
    with_err _ _ c.act-result.result
    (λ refused lacks w holds. unhappened_from old armed acted new w (act_of c.args.act) c.arm.ensures.same
    (lacks w (c.arm.ensures.armed.holds w holds)) c.arm-2.ensures.armed.holds)
    c.act-result.ensures.memory

pub returns-clause-disks : goal.returns-clause-disks
returns-clause-disks c =
    let old = c.args.self.now in
    let armed = c.arm.new.self in
    let acted = c.act-result.new.self in
    let new = c.arm-2.new.self in
    are_armed_round old armed acted new _ (arms.Once c.args.calls) arms.Off c.arm.ensures.same c.act-result.ensures.same
    (subst (λ (p : ℕ). AreArmed (for_player p (arms.Once c.args.calls ∷ [])) old armed) c.seat-player.ensures c.arm.ensures.disks)
    c.act-result.ensures.disks
    (subst (λ (p : ℕ). AreArmed (for_player p (arms.Off ∷ [])) acted new) c.seat-player.ensures c.arm-2.ensures.disks)
