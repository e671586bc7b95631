-- What was printed is what the command line asked for: one match, or the matches of a folder.
use Rattle.std.proofs.Common.{refl}
use Rattle.std.proofs.lemmas.Result.{IfOk-weaker}
use Rattle.c8_judge.proofs.OutcomeLemmas.{is_there, is_missing, names_are}
use Rattle.c8_judge.proofs.command.audit_given.Goals as goal

pub returns-in-Some-clause-audited : goal.returns-in-Some-clause-audited
returns-in-Some-clause-audited g c = λ none. absurd (is_there c.get_str.result _ c.get_str.ensures c.in-Some.folder c.in-Some.is none)

pub returns-in-Some-clause-printed : goal.returns-in-Some-clause-printed
returns-in-Some-clause-printed g c = λ none. absurd (is_there c.get_str.result _ c.get_str.ensures c.in-Some.folder c.in-Some.is none)

pub returns-in-Some-clause-matches : goal.returns-in-Some-clause-matches
returns-in-Some-clause-matches g c = λ some. c.audit_matches.ensures

pub returns-in-None-clause-audited : goal.returns-in-None-clause-audited
returns-in-None-clause-audited g c = λ none. c.audit_files.ensures.audited

pub returns-in-None-clause-printed : goal.returns-in-None-clause-printed
returns-in-None-clause-printed g c = λ none. IfOk-weaker c.audit_files.result _ _ (λ status told. (
  c.asked_of.result.json,
  c.unwrap_or-names.result.now,
  c.asked_of.ensures,
  names_are c.get_strs.result _ c.unwrap_or-names.result _ c.unwrap_or-names.ensures refl c.get_strs.ensures,
  told,
)) c.audit_files.ensures.printed

pub returns-in-None-clause-matches : goal.returns-in-None-clause-matches
returns-in-None-clause-matches g c = λ some. absurd (some (is_missing c.get_str.result _ c.get_str.ensures c.in-None.is))
