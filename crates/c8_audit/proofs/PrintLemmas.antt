-- What is printed, line by line, and of which verdicts.
use Rattle.std.proofs.Common.{◌≡◌, ℕ, List, ◌++◌, codes, Option, Some, None, Result, Ok, Err, sym, subst}
use Rattle.std.specs.Prelude.{OnOk, IfSome, option_map}
use Rattle.std.specs.Io.KnownBytes.{Appends}
use Rattle.std.proofs.KnownBytes.{Appends-trans}
use Rattle.c8_game.specs.Rules.{Rules}
use Rattle.c8_game.specs.declared.row.Player.{Player}
use Rattle.c8_audit.specs.Audit.{fault_in}
use Rattle.c8_audit.specs.Judged.{AreVerdicts}
use Rattle.c8_audit.specs.Read.{all_seen}
use Rattle.c8_audit.specs.declared.error.AuditFault.{AuditFault}
use Rattle.c8_audit.specs.declared.journal.Journal.{Journal}
use Rattle.c8_audit.specs.declared.verdict.Verdicts.{Verdicts}
use Rattle.c8_texts.specs.Report.{Grows}
use Rattle.c8_texts.specs.checked.Grows.{grows_then}
use Rattle.c8_audit.specs.Printed.{checks_text, verdicts_text, sentence_of, Tells}

pub true_checks : {T E : Type 0} (before after : Option (List ℕ)) (untrue : Option Player) (told : Result T E) → untrue ≡ None
    → OnOk told (Appends before after (codes "checks yes\n"))
    → OnOk told ((check : ℕ) × Appends before after (checks_text untrue check))
true_checks before after untrue (Ok done) none appends = (0, subst (λ (o : Option Player). Appends before after (checks_text o 0)) (sym none) appends)
true_checks before after untrue (Err error) none appends = tt

-- a text that may be unknown, but is known
pub some_of : (f : List ℕ → List ℕ) (P : List ℕ → Type 0) (o : Option (List ℕ)) (x : List ℕ) → o ≡ Some x → IfSome (option_map f o) P
    → (y : List ℕ) × P y
some_of f P (Some z) x is has = (f z, has)
some_of f P None x is has = absurd cc

-- the verdicts, after the lines of the journals, and before what follows and the sentence
pub tells_by : (a b c d e f g : Option (List ℕ)) (verdicts : Verdicts) → Grows a b → Grows b c → Grows c d
    → (check : ℕ) × Appends d e (verdicts_text verdicts check) → Grows e f → Appends f g (sentence_of verdicts) → Tells a g verdicts
tells_by a b c d e f g verdicts players empty dropped told after sentence =
    let before = grows_then a c d (grows_then a b c players empty) dropped in
    let last = Appends-trans e f g after.0 (sentence_of verdicts) after.1 sentence in (
      before.0,
      told.0,
      after.0,
      Appends-trans a d g before.0 (verdicts_text verdicts told.0 ++ (after.0 ++ sentence_of verdicts)) before.1
          (Appends-trans d e g (verdicts_text verdicts told.0) (after.0 ++ sentence_of verdicts) told.1 last),
    )

-- `Says`: what was printed says of the verdicts
pub judged_by : (Says : Verdicts → Type 0) (rules : Rules) (given shown : List (Option Journal)) (verdicts : Verdicts)
    (fault : Option AuditFault) → shown ≡ given → AreVerdicts rules (all_seen shown) verdicts → fault ≡ fault_in verdicts → Says verdicts
    → (found : Verdicts) × AreVerdicts rules (all_seen given) found × (fault ≡ fault_in found) × Says found
judged_by Says rules given shown verdicts fault same are is says =
    (verdicts, subst (λ (journals : List (Option Journal)). AreVerdicts rules (all_seen journals) verdicts) same are, is, says)
