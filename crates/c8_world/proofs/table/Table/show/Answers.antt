-- The bytes that join the pool spell player 1's SHOW to the watcher; without one none are added.
use Rattle.std.proofs.Common.{arith}
use Rattle.c8_world.specs.Agreement.{IsPlayer}
use Rattle.c8_world.proofs.SpokenLemmas.{silent_happens, refused_happens, spoken_happens}
use Rattle.c8_world.proofs.WatcherLemmas.{sits, show_call}
use Rattle.c8_world.proofs.table.Table.show.Goals as goal

pub returns-in-None-clause-happened : goal.returns-in-None-clause-happened
returns-in-None-clause-happened c =
    let n = c.args.watcher.number in
    let plays : IsPlayer c.self.inside.game.now 1 = record { from_one = omega arith; in_game = omega (arith, c.in_range.ensures.at_least_two) } in
    silent_happens _ c.args.self.now c.place.result 1 _ _ (show_call n (sits n c.args.watcher.from_five c.args.watcher.to_six))
    c.in-Some.node c.index.result.now
    c.self.view_is c.place.ensures.next (omega arith) plays c.index.ensures c.in-Some.is c.in-None.ensures.said

pub returns-in-Some-Err-clause-happened : goal.returns-in-Some-Err-clause-happened
returns-in-Some-Err-clause-happened c =
    let n = c.args.watcher.number in
    let plays : IsPlayer c.self.inside.game.now 1 = record { from_one = omega arith; in_game = omega (arith, c.in_range.ensures.at_least_two) } in
    refused_happens _ c.args.self.now c.place.result 1 _ _ (show_call n (sits n c.args.watcher.from_five c.args.watcher.to_six))
    c.in-Some.node c.index.result.now
    c.self.view_is c.place.ensures.next (omega arith) plays c.index.ensures c.in-Some.is c.in-Some-Err.field-0 c.in-Some-Err.error
    c.show.new.out c.in-Some-Err.field-0-is c.in-Some-Err.ensures.said

pub returns-in_ok-push-in-Some-Ok-clause-happened : goal.returns-in_ok-push-in-Some-Ok-clause-happened
returns-in_ok-push-in-Some-Ok-clause-happened c =
    let n = c.args.watcher.number in
    let plays : IsPlayer c.self.inside.game.now 1 = record { from_one = omega arith; in_game = omega (arith, c.in_range.ensures.at_least_two) } in
    spoken_happens _ c.args.self.now c.place.result 1 _ _ (show_call n (sits n c.args.watcher.from_five c.args.watcher.to_six))
    c.in-Some.node c.index.result.now
    c.self.view_is c.place.ensures.next (omega arith) plays c.index.ensures c.in-Some.is c.in-Some-Ok.field-0 c.len-number.result
    c.in-Some-Ok.length 174 c.show.new.out c.push.new.self
    c.in-Some-Ok.field-0-is c.len-number.ensures c.in_ok-push-in-Some-Ok.ensures.ok c.in-Some-Ok.ensures.fits
    (omega (arith, c.show.array_long)) c.in-Some-Ok.ensures.said
