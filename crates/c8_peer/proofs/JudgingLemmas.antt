-- The judgement of inputs that differ, and of a CUT.
use Rattle.std.proofs.Common.{◌≡◌, ◌≢◌, ◌≤◌, ℕ, List, [], ◌∷◌, length, Bool, true, false, not, refl, ap, ◌∙◌, arith}
use Rattle.std.specs.Prelude.{◌==◌, ◌&&◌, ◌||◌, nat_eq}
use Rattle.std.specs.Cmp.Lexicographic.{pointwise}
use Rattle.std.proofs.lemmas.Bool.{eq-eqb, ne_eqb, le-leb}
use Rattle.c8_wire.specs.Packet.{LeaverMessage}
use Rattle.c8_known.specs.Known.{KnownValue, player_in, is_player}
use Rattle.c8_known.specs.Fresh.{differ}
use Rattle.c8_peer.specs.State.{Memory}
use Rattle.c8_peer.specs.Hearing.{hear_end, hear_cut}

not_both : (a b : Bool) → not (a && b) ≡ not a || not b
not_both true b = refl
not_both false b = refl

-- for lists of the same length
pub differ_is : (xs ys : List ℕ) → length xs ≡ length ys → not (pointwise nat_eq xs ys) ≡ differ xs ys
unfolding differ
differ_is [] [] same = refl
differ_is [] (y ∷ ys) same = absurd (omega (arith, same))
differ_is (x ∷ xs) [] same = absurd (omega (arith, same))
differ_is (x ∷ xs) (y ∷ ys) same = not_both (x == y) (pointwise nat_eq xs ys)
    ∙ ap (λ (rest : Bool). not (x == y) || rest) (differ_is xs ys (omega (arith, same)))

-- a CUT of another player that passes the first tests is judged by the end of the list
pub cut_goes_on : (k : KnownValue) (m : Memory) (q : ℕ) (c : LeaverMessage) → q ≡ 1 → c.leaver ≢ k.me → is_player k c.leaver ≡ true
    → (player_in k c.leaver).frozen ≡ true
    → hear_cut k m q c ≡ hear_end k m c (player_in k c.leaver).cut
unfolding hear_cut
cut_goes_on k m q c one other plays frozen = rw (eq-eqb q 1 one, ne_eqb c.leaver k.me other, plays, frozen) refl

pub is_player_of : (k : KnownValue) (q : ℕ) → 1 ≤ q → q ≤ length k.players → is_player k q ≡ true
is_player_of k q from to = rw (le-leb 1 q from, le-leb q (length k.players) to) refl
