-- The planned piece stands right behind the pieces before it, so taking it only raises their count.
use Rattle.std.proofs.Common.{refl, arith}
use Rattle.c8_record.proofs.CheckLemmas.{piece_cut}
use Rattle.c8_record.proofs.checks.Checks.advance.Goals as goal

pub returns-clause-value : goal.returns-clause-value
returns-clause-value c = rw (piece_cut c.args.self.now c.requires (omega arith)) refl
