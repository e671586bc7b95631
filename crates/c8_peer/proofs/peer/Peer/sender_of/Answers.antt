-- A datagram that is for this player comes from another one of the game, and there are at most four.
use Rattle.std.proofs.Common.{◌≤◌, ap, refl, arith}
use Rattle.std.proofs.lemmas.Bool.{both_ways, le-leb}
use Rattle.c8_wire.specs.Packet.{HeadValue}
use Rattle.c8_wire.specs.Seats.{is_player}
use Rattle.c8_known.specs.checked.StartLaws.{players_known}
use Rattle.c8_peer.proofs.peer.Peer.sender_of.Goals as goal

pub returns-clause-plays : goal.returns-clause-plays
returns-clause-plays g c =
    let v = c.args.self.now in
    let sound = c.is_sound.ensures in
    let from = ap (λ (head : HeadValue). head.from) c.header.ensures in
    let players = players_known v.rules v.me v.state.journal in
    record {
      from_one = c.in-Some.sender.from_one;
      in_game = omega (arith, c.in-Some.ensures, c.from.ensures, from, c.requires.plays, sound.memory.players, players);
    }

pub unreachable-requires : goal.unreachable-requires
unreachable-requires g c =
    let sound = c.is_sound.ensures in
    let from = ap (λ (head : HeadValue). head.from) c.header.ensures in
    let n = c.from.result.number in
    let low : 1 ≤ n = omega (arith, c.from.ensures, from, c.requires.from_one) in
    let high : n ≤ 4 = omega (arith, c.from.ensures, from, c.requires.plays, sound.memory.players, sound.range.at_most_four) in
    both_ways (is_player n) c.in_default.ensures (rw (le-leb 1 n low, le-leb n 4 high) refl)
