-- A slot before the first that is not open is whole, and its body is kept under its number.
use Rattle.std.proofs.Common.{Some, sym, ◌∙◌, ap, arith}
use Rattle.c8_log.proofs.Kept.{front_of, kept_at, whole}
use Rattle.c8_log.proofs.Repair.{length_of_kept}
use Rattle.c8_log.proofs.image.kept_body.Goals as goal

pub body_at-requires : goal.body_at-requires
body_at-requires c =
    let image = c.args.image.now in whole image c.args.n ((front_of image).below c.args.n (omega (arith, c.requires, length_of_kept image)))

pub returns : goal.returns
returns c =
    let image = c.args.image.now in kept_at image c.args.n (omega (arith, c.requires, length_of_kept image)) ∙ ap Some (sym c.body_at.ensures)
