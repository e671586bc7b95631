-- The first 64 inputs, or in version 2 what 42 pairs hold of them, are the longest prefix that fits.
use Rattle.std.proofs.Common.{ap, sym, ◌∙◌, arith}
use Rattle.c8_game.specs.declared.wire.WireVersion.{WireVersion}
use Rattle.c8_wire.specs.Carried.{fits_in}
use Rattle.c8_wire.specs.checked.CarriedLaws.{fits_words, fits_pairs}
use Rattle.c8_wire.proofs.carried.fits.Goals as goal

pub returns-in-One-clause-value : goal.returns-in-One-clause-value
returns-in-One-clause-value c =
    let words = c.args.words.now in
    fits_words words c.min.result (omega (arith, c.min.ensures)) (omega (arith, c.min.ensures)) (λ below. omega (arith, c.min.ensures, below))
    ∙ ap (λ (v : WireVersion). fits_in v words) (sym c.in-One.is)

pub returns-in-Two-clause-value : goal.returns-in-Two-clause-value
returns-in-Two-clause-value c =
    let words = c.args.words.now in
    fits_pairs words c.fits.result c.fits.ensures.within c.fits.ensures.few c.fits.ensures.pairs c.fits.ensures.most
    ∙ ap (λ (v : WireVersion). fits_in v words) (sym c.in-Two.is)
