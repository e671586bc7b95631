-- The front of `out` has the bytes of the note that is added: the picked datagram, delivered to the player.
use Rattle.std.proofs.Common.{rules, ◌≡◌, ◌++◌, length, take, sym, subst, ℕ, List}
use Rattle.c8_world.specs.World.{Give}
use Rattle.c8_rig.specs.Tokens.{EntryValue, with_note}
use Rattle.c8_rig.proofs.Growth.{copied}
use Rattle.c8_rig.proofs.ether.Ether.draw.Goals as goal

pub returns-in-Ok-clause-some : goal.returns-in-Ok-clause-some
returns-in-Ok-clause-some g c =
    let number : ℕ = c.in-Some-picked.number in
    let bytes : List ℕ = c.as_bytes-bytes.result.now in
    let new : EntryValue = record { ether = c.in-Ok.part.ether; player = c.entry.inside.player.number; notes = c.push-noted.new.self.items } in
    let noted : new ≡ with_note c.args.entry.now (Give number c.args.entry.now.player) bytes = search rules in (
      number,
      subst (λ (b : List ℕ). new ≡ with_note c.args.entry.now (Give number c.args.entry.now.player) b)
          (sym (copied bytes c.copy_from_slice.new.self _ c.copy_from_slice.ensures.after)) noted,
    )
