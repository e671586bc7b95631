-- The part that all reads of a log share.
use Rattle.std.specs.Prelude.{◌≡◌, ◌<◌, ◌↔◌, true, false, Result, OnOk, OnErr, IsErrOf}
use Rattle.c8_disk.specs.declared.disk.Disk.{Ghosts}
use Rattle.c8_disk.specs.Runs.{ReadsOnly}
use Rattle.c8_disk.specs.Asks.{Asks, Reads}
use Rattle.c8_log.specs.declared.error.LogError.{LogError}
use Rattle.c8_log.specs.declared.error.LogError.TheVariants.{Failed, Full, Down}
use Rattle.c8_log.specs.Log.{LogValue, IsAtRest}
use Rattle.c8_log.specs.Asked.{told_by}

-- A read writes nothing, and a crash at any moment of the call leaves what a crash before it could have
-- left. If the log is up, it makes one disk read. After Ok it is up and unchanged; after Failed it is
-- down. If it was down, the answer is Down and nothing changes.
pub record HasRead {D T : Type 0} (g : Ghosts D) (old new : LogValue D) (result : Result T LogError) : Type 0 where
  pub reads : ReadsOnly g old.disk new.disk
  pub asks : old.down ≡ false → Asks g (Reads 1) (told_by result) old.disk new.disk
  pub ok : OnOk result (new ≡ record old { disk = new.disk })
  pub at_rest : OnOk result (IsAtRest g new)
  pub unfailed : OnOk result (g.failures new.disk ≡ g.failures old.disk)
  pub err : OnErr result (new ≡ record old { disk = new.disk; down = true })
  pub failed : IsErrOf result Failed → g.failures old.disk < g.failures new.disk
  pub never_full : IsErrOf result Full → ⊥
  pub down : IsErrOf result Down ↔ (old.down ≡ true)
  pub down_leaves : IsErrOf result Down → new ≡ old
