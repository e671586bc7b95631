-- The key of the watchers' packets is the HMAC of their own label and the session.
use Rattle.std.proofs.Common.{List, ℕ, ◌++◌, ap, ◌∙◌}
use Rattle.std.specs.Prelude.{codes}
use Rattle.c8_transport.specs.Hmac.{hmac}
use Rattle.c8_transport.proofs.key.Key.of_watchers.Goals as goal

pub returns : goal.returns
returns c = c.hmac_of_both.ensures ∙ ap (λ (bytes : List ℕ). hmac c.args.secret.now (codes "c8play watched 2" ++ bytes)) c.to_be_bytes.ensures
