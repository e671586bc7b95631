-- The given journals are of players of the game.
use Rattle.std.proofs.Common.{◌≡◌, ℕ, ◌≤◌, Some, arith}
use Rattle.c8_game.specs.Rules.{Rules}
use Rattle.c8_known.specs.Known.{Plays}
use Rattle.c8_audit.specs.Journals.{Seen, AllSeen, IsGiven, AreOfGame}

pub given_is : (all : AllSeen) (p : ℕ) (s : Seen) → 1 ≤ p → all p ≡ Some s → IsGiven all p s
given_is all p s from is = record { from_one = from; is = is }

-- a player whose journal is given is in the game of another journal, by that journal's first reading
pub plays_first : (rules : Rules) (all : AllSeen) (p q : ℕ) (s t : Seen) → AreOfGame rules all → 1 ≤ p → 1 ≤ q → all p ≡ Some s
    → all q ≡ Some t → Plays s.first q
plays_first rules all p q s t of_game p_from q_from p_is q_is =
    let of = of_game.first p s (given_is all p s p_from p_is) in
    let within = of_game.players q t (given_is all q t q_from q_is) in
    record { from_one = q_from; in_game = omega (arith, within, of.players) }

-- and by its own second reading
pub plays_later : (rules : Rules) (all : AllSeen) (q : ℕ) (t : Seen) → AreOfGame rules all → 1 ≤ q → all q ≡ Some t → Plays t.later q
plays_later rules all q t of_game q_from q_is =
    let of = of_game.later q t (given_is all q t q_from q_is) in
    let within = of_game.players q t (given_is all q t q_from q_is) in
    record { from_one = q_from; in_game = omega (arith, within, of.players) }
