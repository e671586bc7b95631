-- All players' entries and peers are there in order, and their notes made the peers, so the log is a world of them.
use Rattle.std.proofs.Common.{◌<◌, ℕ, sym, subst, ◌∙◌}
use Rattle.std.specs.Prelude.{IfOk}
use Rattle.c8_rig.specs.Gathered.{IsGathering}
use Rattle.c8_rig.specs.Rigged.{IsPlayedAt}
use Rattle.c8_rig.proofs.Rigging.{all_there, at_their_places, rigged}
use Rattle.c8_rig.proofs.threads.together.Goals as goal

pub gather-requires-clause-entries : goal.gather-requires-clause-entries
gather-requires-clause-entries g c = all_there c.args.game.now c.args.turns g.B.Room.ether g.B.Room.players c.args.entries.items
    c.args.peers.items c.requires.entries c.requires.played

pub gather-requires-clause-places : goal.gather-requires-clause-places
gather-requires-clause-places g c = at_their_places c.args.game.now c.args.turns g.B.Room.ether g.B.Room.players c.args.entries.items
    c.args.peers.items c.requires.peers c.requires.played

pub returns : goal.returns
returns g c =
    let played : (i : ℕ) → i < c.args.game.now.players
    → IsPlayedAt c.args.game.now c.args.turns g.B.Room.ether c.args.entries.items c.args.peers.items i =
    subst (λ (n : ℕ). (i : ℕ) → i < n → IsPlayedAt c.args.game.now c.args.turns g.B.Room.ether c.args.entries.items c.args.peers.items i)
    (sym c.requires.game) c.requires.played in
    rigged c.a_log_is_a_world.ensures c.moments_of_a_log_agree.ensures c.what_disks_give_agrees.ensures c.args.game.now c.args.turns
    g.B.Room.ether c.args.entries.items c.args.peers.items c.gather.result c.in_range.ensures (c.requires.peers ∙ sym c.requires.game) played
    (subst (λ (n : ℕ). IfOk c.gather.result (λ gathering. IsGathering n c.args.entries.items c.args.peers.items gathering))
    (sym c.requires.game) c.gather.ensures)
