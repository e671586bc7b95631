-- To mark the player as dropped says what a LEAVE says, and takes nothing back.
use Rattle.c8_known.proofs.TableLemmas.{leave_call}
use Rattle.c8_known.proofs.known.Known.leave.Goals as goal

pub invariant_of-self : goal.invariant_of-self
invariant_of-self c =
    let done = leave_call c.self.inside c.args.self.now c.place.result c.args.player.number c.index_mut.result.now
    (record {
      view = c.self.view_is;
      known = c.self.invariant.0;
      room = c.self.invariant.1;
      at = c.place.ensures.value;
      plays = c.requires;
      is = c.index_mut.ensures.value;
    }) in
    (done.known, done.room)

pub returns-clause-value : goal.returns-clause-value
returns-clause-value c = (leave_call c.self.inside c.args.self.now c.place.result c.args.player.number c.index_mut.result.now
    (record {
      view = c.self.view_is;
      known = c.self.invariant.0;
      room = c.self.invariant.1;
      at = c.place.ensures.value;
      plays = c.requires;
      is = c.index_mut.ensures.value;
    })).value

pub returns-clause-known : goal.returns-clause-known
returns-clause-known c = (leave_call c.self.inside c.args.self.now c.place.result c.args.player.number c.index_mut.result.now
    (record {
      view = c.self.view_is;
      known = c.self.invariant.0;
      room = c.self.invariant.1;
      at = c.place.ensures.value;
      plays = c.requires;
      is = c.index_mut.ensures.value;
    })).known

pub returns-clause-still : goal.returns-clause-still
returns-clause-still c = (leave_call c.self.inside c.args.self.now c.place.result c.args.player.number c.index_mut.result.now
    (record {
      view = c.self.view_is;
      known = c.self.invariant.0;
      room = c.self.invariant.1;
      at = c.place.ensures.value;
      plays = c.requires;
      is = c.index_mut.ensures.value;
    })).still
