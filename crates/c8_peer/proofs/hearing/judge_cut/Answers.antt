-- Once the FREEZE of another leaver stands, a CUT of player 1 is judged by where it ends the leaver's list.
use Rattle.std.proofs.Common.{◌≡◌, ◌∙◌, ℕ, true, sym, ap, subst, arith}
use Rattle.c8_wire.specs.Lent.{cut_of}
use Rattle.c8_known.specs.Known.{player_in}
use Rattle.c8_peer.specs.State.{Outcome}
use Rattle.c8_peer.specs.checked.Verdicts.{Judges}
use Rattle.c8_peer.proofs.JudgingLemmas.{cut_goes_on, is_player_of}
use Rattle.c8_peer.proofs.hearing.judge_cut.Goals as goal

pub returns : goal.returns
returns c = λ m.
    let k = c.args.known.now in
    let leaver = c.leaver-leaver.ensures.value in
    let frozen : (player_in k (cut_of c.args.cut.now).leaver).frozen ≡ true =
    ap (λ (q : ℕ). (player_in k q).frozen) (sym leaver) ∙ sym c.has_freeze.ensures ∙ c.if-not-has_freeze.false in
    let plays = is_player_of k (cut_of c.args.cut.now).leaver
    (omega (arith, leaver, c.leaver-leaver.ensures.from_two))
    (omega (arith, leaver, c.if-leaver-players.false, c.players.ensures.value)) in
    let goes_on = cut_goes_on k m c.args.sender.number (cut_of c.args.cut.now) c.if-sender-ne1.false
    (λ same. c.if-leaver-me.false (leaver ∙ same ∙ sym c.me.ensures.value)) plays frozen in
    subst (λ (o : Outcome). Judges o m m c.judge_end.result) (sym goes_on) (rw leaver at (c.judge_end.ensures m))
