-- If the notes are the player's part, `next` counts the player's notes in the log so far.
use Rattle.std.proofs.Common.{◌≡◌, ◌≤◌, length, take}
use Rattle.c8_rig.specs.Log.{part_of}
use Rattle.c8_rig.proofs.note.is_part.Given as goal

abbrev pub invariant-loop-note : goal.invariant-loop-note
invariant-loop-note l =
    (l.next ≤ l.note-index) × (l.notes ≡ part_of l.player.number l.log → l.next ≡ length (part_of l.player.number (take l.note-index l.log)))
