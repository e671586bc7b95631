-- What an outcome that depends on a test records.
use Rattle.std.proofs.Common.{◌≡◌, Bool, true, false, cond, Some, refl}
use Rattle.c8_known.specs.Journal.{Record}
use Rattle.c8_peer.specs.State.{Memory, Reply, Outcome, answered}

-- if the outcome has a record and its refusal none, the test is false
pub failed : (test : Bool) (m : Memory) (reply : Reply) (others : Outcome) (r : Record)
    → (cond test (answered m reply) others).keeps ≡ Some r → (test ≡ false) × (others.keeps ≡ Some r)
failed true m reply others r is = absurd cc
failed false m reply others r is = (refl, is)

pub either_way : (test : Bool) (one other : Outcome) (r : Record) (P : Type 0) → (cond test one other).keeps ≡ Some r
    → (test ≡ true → one.keeps ≡ Some r → P) → (test ≡ false → other.keeps ≡ Some r → P) → P
either_way true one other r P is f g = f refl is
either_way false one other r P is f g = g refl is

pub this_record : (r s : Record) → Some r ≡ Some s → s ≡ r
this_record r s is = cc
