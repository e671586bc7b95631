-- The key of the players' packets is the HMAC of their label and the session, most significant byte first.
use Rattle.std.proofs.Common.{List, ℕ, ◌++◌, ap, ◌∙◌}
use Rattle.std.specs.Prelude.{codes}
use Rattle.c8_transport.specs.Hmac.{hmac}
use Rattle.c8_transport.proofs.key.Key.of_match.Goals as goal

pub returns : goal.returns
returns c = c.hmac_of_both.ensures ∙ ap (λ (bytes : List ℕ). hmac c.args.secret.now (codes "c8play sealed 2" ++ bytes)) c.to_be_bytes.ensures
