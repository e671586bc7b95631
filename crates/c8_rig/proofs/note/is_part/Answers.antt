-- If the notes are the player's part, the log's next note of that player stands where the loop looks for it.
use Rattle.std.proofs.Common.{rules, ◌≡◌, ◌<◌, Some, ap, sym, subst, ◌∙◌, length, ℕ, List}
use Rattle.std.specs.List.{slice_get}
use Rattle.std.proofs.lemmas.Option.{slice_get-get_or}
use Rattle.c8_world.specs.World.{player_of}
use Rattle.c8_rig.specs.Log.{NoteValue}
use Rattle.c8_rig.proofs.Parts.{part_at}
use Rattle.c8_rig.proofs.note.is_part.Goals as goal

pub returns-then-not-stands_at : goal.returns-then-not-stands_at
returns-then-not-stands_at c same =
    let note : NoteValue = c.note-item.result in
    let log : List NoteValue = c.args.log.now in
    let within : c.loop-note.note-index < length log = search rules in
    let at : slice_get log c.loop-note.note-index ≡ Some note =
    slice_get-get_or log c.loop-note.note-index note within ∙ ap (λ (n : NoteValue). Some n) (sym c.note-item.is) in
    let own : player_of note.act ≡ c.args.player.number = search rules in
    let there : slice_get c.args.notes.now c.loop-note.next ≡ Some note =
    subst (λ (x : List NoteValue × ℕ). slice_get x.0 x.1 ≡ Some note) (λ i. (sym same i, sym (c.loop-note.invariant.1 same) i))
    (part_at c.args.player.number log c.loop-note.note-index note at own) in
    sym c.if-not-stands_at.true ∙ c.stands_at.ensures.there there
