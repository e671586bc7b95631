-- Each field has the value of the verdicts or of the journals, and none has a float.
use Rattle.std.proofs.Common.{◌≡◌, ap, subst, IfOk}
use Rattle.serde_json.specs.View.{view}
use Rattle.serde_json.specs.Written.{has_float}
use Rattle.c8_judge.specs.PrintedJson.{audit_data}
use Rattle.c8_judge.proofs.JsonLemmas.{object_by, exact_by}
use Rattle.c8_judge.proofs.json.object_of.Goals as goal

pub returns-clause-object : goal.returns-clause-object
returns-clause-object c =
    subst (λ journals. IfOk c.joined.result (λ v. view v ≡ audit_data c.args.evidence.now.game journals c.args.files.now
    c.args.evidence.now.gathered.empty c.args.verdicts.now)) c.as_slice-journals.ensures
    (object_by c.joined.result (view c.in_ok-agree.agree) (view c.in_ok-checks.checks) (view c.in_ok-dropped.dropped) (view c.in_ok-empty.empty)
    (view c.in_ok-entered.entered) (view c.in_ok-players.players) (view c.in_ok-result.result) (view c.in_ok-sentence.sentence)
    (view c.in_ok-unchecked.unchecked) c.joined.ensures _ _ _ _ _ _ _ _ _ c.in_ok-agree.ensures.answer c.in_ok-checks.ensures.answer
    c.in_ok-dropped.ensures.list c.in_ok-empty.ensures.number c.in_ok-entered.ensures.answer c.in_ok-players.ensures.list
    c.in_ok-result.ensures.result c.in_ok-sentence.ensures c.in_ok-unchecked.ensures.list)

pub returns-clause-exact : goal.returns-clause-exact
returns-clause-exact c =
    exact_by c.joined.result (view c.in_ok-agree.agree) (view c.in_ok-checks.checks) (view c.in_ok-dropped.dropped) (view c.in_ok-empty.empty)
    (view c.in_ok-entered.entered) (view c.in_ok-players.players) (view c.in_ok-result.result) (view c.in_ok-sentence.sentence)
    (view c.in_ok-unchecked.unchecked) c.joined.ensures c.in_ok-agree.ensures.exact c.in_ok-checks.ensures.exact
    c.in_ok-dropped.ensures.exact c.in_ok-empty.ensures.exact c.in_ok-entered.ensures.exact c.in_ok-players.ensures.exact
    c.in_ok-result.ensures.exact (ap has_float c.in_ok-sentence.ensures) c.in_ok-unchecked.ensures.exact
