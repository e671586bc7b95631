-- The log stays lawful with one more note: its player has an entry, and what it delivers was said before.
use Rattle.std.proofs.Common.{rules, ◌≡◌, ◌≤◌, [], ◌∷◌, ◌++◌}
use Rattle.c8_wire.specs.declared.sizes.TheConstants.{LONGEST_DATAGRAM}
use Rattle.c8_world.specs.Events.{act_of}
use Rattle.c8_world.specs.World.{player_of}
use Rattle.c8_rig.specs.Log.{NoteValue, said_in}
use Rattle.c8_rig.proofs.Growth.{book_with}
use Rattle.c8_rig.proofs.ether.Book.add.Goals as goal

pub invariant_of-self-2 : goal.invariant_of-self-2
invariant_of-self-2 g c =
    let was = c.self.invariant in
    let note : NoteValue = record { act = act_of c.args.act; bytes = c.args.bytes.now } in
    let more : c.push-noted.new.self.items ≡ c.self.inside.notes.items ++ note ∷ [] = search rules in
    let also : c.keep_said.new.said.items ≡ c.self.inside.said.items ++ said_in note.act note.bytes = search rules in
    let from_one : 1 ≤ player_of note.act = search rules in
    let in_game : player_of note.act ≤ g.B.Room.players = search rules in
    let now = book_with g.B.Room.players LONGEST_DATAGRAM c.self.inside.notes.items _ c.self.inside.said.items _ note more also was.1 was.2
    was.3 from_one in_game (search rules) (search rules) in
    (search rules, now.0, now.1, now.2)
