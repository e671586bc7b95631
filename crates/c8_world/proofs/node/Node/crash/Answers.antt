-- With a peer or without, the node's disk crashes and leaves what the pick allows.
use Rattle.std.proofs.Common.{refl, subst}
use Rattle.c8_disk.specs.declared.mem_disk.MemDisk.{MemDisk}
use Rattle.c8_world.specs.Turns.{IsDiskCrash}
use Rattle.c8_world.proofs.node.Node.crash.Goals as goal

pub returns-clause-crash : goal.returns-clause-crash
returns-clause-crash c =
    let is = c.crash.ensures in (
      c.crash.result,
      refl,
      subst (λ (disk : MemDisk). IsDiskCrash c.args.pick disk c.crash.result) c.into_disk.ensures.disk
          (record { image = is.image; synced = is.synced; read = is.read; value = is.value }),
    )
