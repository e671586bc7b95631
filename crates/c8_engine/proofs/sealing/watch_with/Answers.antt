-- The watcher has a sealer already.
use Rattle.std.proofs.Common.{◌≡◌, Bool, false, length, None, Some, inl, inr, refl, ap, subst, arith}
use Rattle.std.proofs.lemmas.Grind.{common_steps}
use Rattle.c8_transport.specs.declared.keys.Secrets.{Secrets}
use Rattle.c8_embed.specs.Watch.{HasWatchSealing}
use Rattle.c8_engine.specs.Watched.{IsWatchSecret}
use Rattle.c8_engine.proofs.sealing.watch_with.Goals as goal

pub returns-else-seal_with : goal.returns-else-seal_with
returns-else-seal_with c =
    let secrets : Secrets = record { players = None; watchers = Some c.of.result } in
    let alone : length c.args.watchers.now ≡ 0 = grind (arith, common_steps) in
    let is : IsWatchSecret c.args.secret.now c.args.watchers.now secrets =
    record { players = refl; watchers_is = ap (λ s. Some s) c.of.ensures; alone = alone } in
    let sealing : HasWatchSealing c.args.watcher.now secrets false c.seal_with.new.self =
    subst (λ (b : Bool). HasWatchSealing c.args.watcher.now secrets b c.seal_with.new.self) c.if-seal_with.false c.seal_with.ensures.sealing in
    inr (inl (secrets, is, sealing, c.sealed_already_code.ensures))
