-- The bytes that join the pool spell the packet that was said; a peer that is silent or refuses adds none.
use Rattle.std.proofs.Common.{arith}
use Rattle.c8_peer.specs.Asked.{saying_of}
use Rattle.c8_world.specs.Agreement.{IsPlayer}
use Rattle.c8_world.proofs.SpokenLemmas.{say_call, say_absent, silent_happens, refused_happens, spoken_happens}
use Rattle.c8_world.proofs.table.Table.say.Goals as goal

pub returns-then-player-players-clause-happened : goal.returns-then-player-players-clause-happened
returns-then-player-players-clause-happened c =
    say_absent _ c.args.self.now c.args.player.number _ _ (say_call c.args.player.number c.args.to.number (saying_of c.args.what))
    c.self.view_is (omega arith)

pub returns-in-None-clause-happened : goal.returns-in-None-clause-happened
returns-in-None-clause-happened c =
    let plays : IsPlayer c.self.inside.game.now c.args.player.number = record { from_one = omega arith; in_game = omega arith } in
    silent_happens _ c.args.self.now c.place.result c.args.player.number _ _
    (say_call c.args.player.number c.args.to.number (saying_of c.args.what)) c.in-Some.node c.index.result.now
    c.self.view_is c.place.ensures.next (omega arith) plays c.index.ensures c.in-Some.is c.in-None.ensures.said

pub returns-in-Some-Err-clause-happened : goal.returns-in-Some-Err-clause-happened
returns-in-Some-Err-clause-happened c =
    let plays : IsPlayer c.self.inside.game.now c.args.player.number = record { from_one = omega arith; in_game = omega arith } in
    refused_happens _ c.args.self.now c.place.result c.args.player.number _ _
    (say_call c.args.player.number c.args.to.number (saying_of c.args.what)) c.in-Some.node c.index.result.now
    c.self.view_is c.place.ensures.next (omega arith) plays c.index.ensures c.in-Some.is c.in-Some-Err.field-0 c.in-Some-Err.error
    c.say.new.out c.in-Some-Err.field-0-is c.in-Some-Err.ensures.said

pub returns-in_ok-push-in-Some-Ok-clause-happened :
    goal.returns-in_ok-push-in-Some-Ok-clause-happened
returns-in_ok-push-in-Some-Ok-clause-happened c =
    let plays : IsPlayer c.self.inside.game.now c.args.player.number = record { from_one = omega arith; in_game = omega arith } in
    spoken_happens _ c.args.self.now c.place.result c.args.player.number _ _
    (say_call c.args.player.number c.args.to.number (saying_of c.args.what)) c.in-Some.node c.index.result.now
    c.self.view_is c.place.ensures.next (omega arith) plays c.index.ensures c.in-Some.is c.in-Some-Ok.field-0 c.len-number.result
    c.in-Some-Ok.length 174 c.say.new.out c.push.new.self
    c.in-Some-Ok.field-0-is c.len-number.ensures c.in_ok-push-in-Some-Ok.ensures.ok c.in-Some-Ok.ensures.fits
    (omega (arith, c.say.array_long)) c.in-Some-Ok.ensures.said
