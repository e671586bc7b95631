-- The first line ends before the first line feed, or with the text if that has none.
use Rattle.c8_game.proofs.LineLemmas.{lines-fed, lines-unfed}
use Rattle.c8_game.proofs.text.lines.first_line.Goals as goal

pub returns-in-None : goal.returns-in-None
returns-in-None c = lines-unfed c.args.text.now c.requires c.in-None.ensures.none

pub returns-in-Some : goal.returns-in-Some
returns-in-Some c =
    rw (c.without_return.ensures, c.in-Some.line-is, c.in-Some.rest-is, c.in-Some.ensures.before, c.in-Some.ensures.after)
    (lines-fed c.args.text.now c.in-Some.ensures.found)
