-- A room's name is the beginning of the HMAC of its label and the session, most significant byte first.
use Rattle.std.proofs.Common.{List, ℕ, ◌++◌, ap, ◌∙◌}
use Rattle.std.specs.Prelude.{codes, take}
use Rattle.std.specs.Int.{w64, to_be_bytes}
use Rattle.c8_transport.specs.Hmac.{hmac}
use Rattle.c8_transport.proofs.secret.Secret.room_name.Goals as goal

pub returns : goal.returns
returns c =
    c.copy_from_slice.ensures.after
    ∙ ap (λ (bytes : List ℕ). take 16 bytes)
    (c.hmac_of_both-digest.ensures
    ∙ ap (λ (bytes : List ℕ). hmac c.self.inside.bytes (codes "c8play relay 1" ++ bytes)) c.to_be_bytes.ensures
    ∙ ap (λ (secret : List ℕ). hmac secret (codes "c8play relay 1" ++ to_be_bytes w64 c.args.session)) c.self.view_is)
