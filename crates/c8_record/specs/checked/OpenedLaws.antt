-- Checked, not believed: what a journal with one more record says about checkpoints.
use Rattle.std.proofs.Common.{◌≡◌, List, [], ◌∷◌, ◌++◌, Option, None, refl}
use Rattle.std.specs.Prelude.{fold}
use Rattle.c8_digest.specs.Origin.{Origin}
use Rattle.c8_known.specs.Journal.{Record}
use Rattle.c8_record.specs.Checks.{ChecksValue, no_checks, with_check, checks_of, opened_at, opened_since}

pub opened_more_since : (c : ChecksValue) (before : Option Origin) (journal : List Record) (r : Record)
    → opened_since c before (journal ++ r ∷ []) ≡ opened_at (fold with_check c journal) (opened_since c before journal) r
unfolding opened_since
opened_more_since c before [] r = refl
opened_more_since c before (s ∷ journal) r = opened_more_since (with_check c s) (opened_at c before s) journal r

pub opened_more : (journal : List Record) (r : Record)
    → opened_since no_checks None (journal ++ r ∷ []) ≡ opened_at (checks_of journal) (opened_since no_checks None journal) r
unfolding checks_of
opened_more journal r = opened_more_since no_checks None journal r
