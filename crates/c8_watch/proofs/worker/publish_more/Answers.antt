-- Rows that begin with the published ones and are as many are the same, so the pen shows them already.
use Rattle.std.proofs.Common.{◌≡◌, ℕ, ◌+◌, List, [], ◌∷◌, ◌++◌, length, sym, ap, ◌∙◌, arith}
use Rattle.std.proofs.lemmas.List.{append-nil, length-append}
use Rattle.c8_game.specs.declared.row.Row.{Row}
use Rattle.c8_watch.proofs.worker.publish_more.Goals as goal

nothing_left : (rest : List Row) → length rest ≡ 0 → rest ≡ []
nothing_left [] none = cc
nothing_left (row ∷ rest) none = absurd (omega (arith, none))

pub returns-then-count-published-clause-shown : goal.returns-then-count-published-clause-shown
returns-then-count-published-clause-shown c =
    let pen = c.args.pen.now in
    let begins = c.requires.shows.rows in
    let same = c.if-count-published.true in
    let count = c.count.ensures.count in
    let none : begins.rest ≡ [] = nothing_left begins.rest
    (omega (arith, same, count, c.requires.published, length-append pen.rows begins.rest, ap length begins.is)) in
    ap (λ (rows : List Row). record pen { rows = rows }) (sym (begins.is ∙ ap (λ (rest : List Row). pen.rows ++ rest) none ∙ append-nil pen.rows))
