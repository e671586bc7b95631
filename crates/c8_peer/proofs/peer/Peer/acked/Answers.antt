-- The peer's memory is in order, so nobody has acknowledged more inputs than the peer has.
use Rattle.std.proofs.Common.{◌≡◌, ℕ, ◌≤◌, sym, ap, subst, ◌∙◌}
use Rattle.c8_known.specs.Known.{count_in}
use Rattle.c8_window.specs.Window.{acked_of}
use Rattle.c8_peer.specs.declared.peer.Peer.TheInside.{Inside}
use Rattle.c8_peer.specs.Peer.{known_by}
use Rattle.c8_peer.proofs.ReaderLemmas.{acks_few}
use Rattle.c8_peer.proofs.peer.Peer.acked.Goals as goal

pub returns-clause-within : goal.returns-clause-within
returns-clause-within g c =
    let q = c.args.player.number in
    -- the call got the window by reference: what holds for it holds for the peer's window
    let own : (x : Inside g.row.D.Denot) → x ≡ c.self.inside → c.acked.result ≡ acked_of x.memory.acks q
    → c.acked.result ≡ acked_of c.self.inside.memory.acks q = λ x same is.
    is ∙ ap (λ (y : Inside g.row.D.Denot). acked_of y.memory.acks q) same in
    let few = acks_few c.args.self.now c.self.inside.game.now c.self.inside.room c.self.inside.journal c.self.inside.known
    c.self.inside.memory q c.self.view_is c.self.invariant.0 in
    subst (λ (n : ℕ). n ≤ count_in (known_by c.args.self.now) c.args.self.now.me) (sym (own _ c.self-inside.view_is c.acked.ensures)) few
