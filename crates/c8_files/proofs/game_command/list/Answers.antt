-- A program that is listed has a byte and not too many, so no fault refuses it.
use Rattle.std.proofs.Common.{◌≡◌, ◌∙◌, ◌==◌, false, length, sym, Ok, refl, nat_lt}
use Rattle.std.proofs.lemmas.Bool.{le-ltb}
use Rattle.c8_game.specs.Rules.{most_program}
use Rattle.c8_files.proofs.game_command.list.Goals as goal

pub returns-in_ok-write_listing : goal.returns-in_ok-write_listing
returns-in_ok-write_listing g c =
    let some : (length c.args.program.bytes.now == 0) ≡ false = sym c.is_empty.ensures ∙ c.if-is_empty.false in
    let fits : nat_lt most_program (length c.args.program.bytes.now) ≡ false =
    le-ltb most_program (length c.args.program.bytes.now) c.if-program-gt-MOST_PROGRAM.false in
    (Ok c.args.program.bytes.now, (refl, rw (some, fits) refl), refl)
