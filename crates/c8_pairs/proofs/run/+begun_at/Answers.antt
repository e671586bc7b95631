-- To pass a pair that ends by the place changes no input from there on, and the pairs left begin 3 bytes later.
use Rattle.std.proofs.Common.{◌≡◌, ◌≤◌, ◌<◌, ◌+◌, ◌*◌, ◌^◌, ℕ, List, get_or, drop, ap, sym, subst, ◌∙◌, arith}
use Rattle.std.proofs.lemmas.List.{drop-drop}
use Rattle.c8_pairs.specs.declared.pair.Pair.{Pair}
use Rattle.c8_pairs.specs.Pairs.{words_in}
use Rattle.c8_pairs.specs.Reading.{pairs_at}
use Rattle.c8_pairs.specs.checked.PairLaws.{sets_after}
use Rattle.c8_pairs.proofs.RunLemmas.{drop_past}
use Rattle.c8_pairs.proofs.run.+begun_at.Goals as goal

pub returns-in-Some-clause-words : goal.returns-in-Some-clause-words
returns-in-Some-clause-words t c =
    let first = c.in-Some.first in
    let past : first.times ≤ c.args.place = omega (arith, c.if-first-place.true) in
    c.begun_at.ensures.words ∙ sym (ap (λ (pairs : List Pair). drop c.args.place (words_in pairs)) c.in-Some.ensures.pair
    ∙ drop_past c.args.place first.times first.keys (words_in (pairs_at first.rest.now)) past)

pub returns-in-Some-clause-slice : goal.returns-in-Some-clause-slice
returns-in-Some-clause-slice t c =
    let pairs = c.begun_at.ensures.slice.0 in
    let all : 3 + 3 * pairs ≡ 3 * (pairs + 1) = omega arith in (
      pairs + 1,
      c.begun_at.ensures.slice.1 ∙ ap (drop (3 * pairs)) c.in-Some.ensures.rest ∙ drop-drop (3 * pairs) 3 c.args.bytes.now
          ∙ ap (λ (n : ℕ). drop n c.args.bytes.now) all,
    )

pub returns-in-Some-clause-sets : goal.returns-in-Some-clause-sets
returns-in-Some-clause-sets t c sets =
    let first = c.in-Some.first in
    c.begun_at.ensures.sets (sets_after (record { times = first.times; keys = first.keys }) (pairs_at first.rest.now)
    (subst (λ (pairs : List Pair). (i : ℕ) → get_or (words_in pairs) i 0 < 2 ^ 16) c.in-Some.ensures.pair sets))
