-- The body of a FROZEN or CUT is its leaver and then its run, appended one after the other.
use Rattle.std.proofs.Common.{◌≡◌, ◌++◌, List, ℕ, refl, sym, ap, ◌∙◌}
use Rattle.std.proofs.lemmas.List.{append_assoc}
use Rattle.c8_game.specs.declared.wire.WireVersion.{WireVersion}
use Rattle.c8_wire.specs.declared.said.Body.{Body}
use Rattle.c8_wire.specs.Spelling.{body_bytes}
use Rattle.c8_wire.specs.Saying.{message_of}
use Rattle.c8_wire.proofs.writing.put_body.Goals as goal

-- bytes that were appended in two parts are the body's
in_parts : (version : WireVersion) (old first second between new : List ℕ) (body whole : Body) → between ≡ old ++ first
    → new ≡ between ++ second → whole ≡ body → body_bytes version (message_of body) ≡ first ++ second
    → new ≡ old ++ body_bytes version (message_of whole)
in_parts version old first second between new body whole p q is parts =
    q ∙ ap (λ (front : List ℕ). front ++ second) p ∙ append_assoc old first second ∙ ap (λ (back : List ℕ). old ++ back) (sym parts)
    ∙ ap (λ (b : Body). old ++ body_bytes version (message_of b)) (sym is)

pub returns-in-Frozen-clause-bytes : goal.returns-in-Frozen-clause-bytes
returns-in-Frozen-clause-bytes c = in_parts c.args.version _ _ _ _ _ _ _ c.put_leaver-in-Frozen.ensures c.put_run-in-Frozen.ensures.bytes
    c.in-Frozen.is refl

pub returns-in-Cut-clause-bytes : goal.returns-in-Cut-clause-bytes
returns-in-Cut-clause-bytes c = in_parts c.args.version _ _ _ _ _ _ _ c.put_leaver-in-Cut.ensures c.put_run-in-Cut.ensures.bytes c.in-Cut.is refl
