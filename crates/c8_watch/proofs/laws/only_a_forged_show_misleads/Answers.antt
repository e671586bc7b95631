-- The rows of each SHOW that player 1's peer said lie on one list that only grows, so what is taken begins it.
use Rattle.std.proofs.Common.{refl, arith}
use Rattle.c8_known.specs.Known.{known_of}
use Rattle.c8_known.specs.Confirmed.{confirmed_rows}
use Rattle.c8_spectator.specs.Watching.{first_watch}
use Rattle.c8_watch.proofs.ShownLemmas.{shows_begin}
use Rattle.c8_watch.proofs.laws.only_a_forged_show_misleads.Goals as goal

pub returns : goal.returns
returns c rules room seat s deeds answers given range few run shows =
    shows_begin c.what_is_shown_of_one_list_begins_it.ensures.any rules s answers
    (λ p among. c.a_peers_word_stands.ensures.said rules room 1 s deeds answers p range (omega arith) (omega (arith, range.at_least_two))
    few run among)
    (first_watch rules room seat) given shows (record { rest = confirmed_rows (known_of rules 1 s.journal); is = refl })
