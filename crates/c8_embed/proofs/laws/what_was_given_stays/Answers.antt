-- A run of the peer loses no confirmed frame and changes no confirmed row, so what was given as confirmed is still true.
use Rattle.std.proofs.Common.{◌≡◌, ◌≤◌, ℕ, map, sym, subst}
use Rattle.c8_game.specs.Rules.{Rules}
use Rattle.c8_known.specs.Known.{known_of}
use Rattle.c8_known.specs.Confirmed.{confirmed, rows_below}
use Rattle.c8_peer.specs.Peer.{known_by}
use Rattle.c8_session.specs.Runs.{does}
use Rattle.c8_embed.specs.Steps.{IsTrueTo}
use Rattle.c8_embed.proofs.EngineLemmas.{true_later}
use Rattle.c8_embed.proofs.laws.what_was_given_stays.Goals as goal

pub returns-clause-ran : goal.returns-clause-ran
returns-clause-ran g c old new s sound ran before =
    let word = c.a_word_stands_from_any_journal.ensures in
    let lawful = word.sound old sound in
    let deeds = map does ran.calls in
    let rises = word.confirmed old.rules old.room old.me old.state new.state deeds ran.answers sound.range sound.plays.0 sound.plays.1
    sound.low lawful ran.run in
    let rows : (n : ℕ) → n ≤ confirmed (known_by old)
    → rows_below (known_of old.rules old.me new.state.journal) n ≡ rows_below (known_by old) n =
    λ n within. word.rows old.rules old.room old.me n old.state new.state deeds ran.answers sound.range sound.plays.0
    sound.plays.1 sound.low lawful ran.run within in
    let later = true_later (known_by old) (known_of old.rules old.me new.state.journal) s rises rows before in
    subst (λ (me : ℕ). IsTrueTo (known_of new.rules me new.state.journal) s) (sym ran.me)
    (subst (λ (rules : Rules). IsTrueTo (known_of rules old.me new.state.journal) s) (sym ran.rules) later)

pub returns-clause-call : goal.returns-clause-call
unfolding returns-clause-ran
returns-clause-call g c old new call reply s sound is answered before =
    returns-clause-ran g c old new s sound (c.peers_run_on.ensures.call old old new call reply (c.peers_run_on.ensures.still old) is answered) before
