-- Torn writes, one after another.
use Rattle.std.proofs.Common.{◌≡◌, ◌≤◌, ℕ, ◌+◌, List, take, drop, sym, ◌∙◌, ap, arith}
use Rattle.std.proofs.lemmas.List.{take-take}
use Rattle.c8_disk.specs.Disk.{Torn}
use Rattle.c8_disk.specs.checked.TornLaws.{torn_wider}

-- one more byte
pub torn_more : (at count : ℕ) (old mid new : List ℕ) → Torn at count old mid → Torn (at + count) 1 mid new → Torn at (count + 1) old new
torn_more at count old mid new first second =
    let wider = torn_wider at count (count + 1) old mid (omega arith) first in
    let order : at ≤ at + count = omega arith in
    let reach : at + count + 1 ≡ at + (count + 1) = omega arith in
    let before : take at new ≡ take at old =
    sym (take-take at (at + count) new order) ∙ ap (λ (l : List ℕ). take at l) second.before ∙ take-take at (at + count) mid order ∙ first.before in
    let after : drop (at + (count + 1)) new ≡ drop (at + (count + 1)) old =
    ap (λ (n : ℕ). drop n new) (sym reach) ∙ second.after ∙ ap (λ (n : ℕ). drop n mid) reach ∙ wider.after in
    record {
      before = before;
      after = after;
      no_shorter = omega (arith, first.no_shorter, second.no_shorter);
      no_longer = omega (arith, first.no_longer, second.no_longer);
    }
