-- To end a frozen player's list where it is says what a CUT without inputs says, and takes nothing back.
use Rattle.c8_known.proofs.TableLemmas.{cut_call}
use Rattle.c8_known.proofs.known.Known.cut.Goals as goal

pub invariant_of-self : goal.invariant_of-self
invariant_of-self c =
    let done = cut_call c.self.inside c.args.self.now c.place.result c.args.player.number c.args.length c.index_mut.result.now
    (record {
      view = c.self.view_is;
      known = c.self.invariant.0;
      room = c.self.invariant.1;
      at = c.place.ensures.value;
      plays = c.requires.plays;
      is = c.index_mut.ensures.value;
    }) c.requires.other c.requires.leaves c.requires.uncut c.requires.held in
    (done.known, done.room)

pub returns-clause-value : goal.returns-clause-value
returns-clause-value c = (cut_call c.self.inside c.args.self.now c.place.result c.args.player.number c.args.length c.index_mut.result.now
    (record {
      view = c.self.view_is;
      known = c.self.invariant.0;
      room = c.self.invariant.1;
      at = c.place.ensures.value;
      plays = c.requires.plays;
      is = c.index_mut.ensures.value;
    }) c.requires.other c.requires.leaves c.requires.uncut c.requires.held).value

pub returns-clause-known : goal.returns-clause-known
returns-clause-known c = (cut_call c.self.inside c.args.self.now c.place.result c.args.player.number c.args.length c.index_mut.result.now
    (record {
      view = c.self.view_is;
      known = c.self.invariant.0;
      room = c.self.invariant.1;
      at = c.place.ensures.value;
      plays = c.requires.plays;
      is = c.index_mut.ensures.value;
    }) c.requires.other c.requires.leaves c.requires.uncut c.requires.held).known

pub returns-clause-still : goal.returns-clause-still
returns-clause-still c = (cut_call c.self.inside c.args.self.now c.place.result c.args.player.number c.args.length c.index_mut.result.now
    (record {
      view = c.self.view_is;
      known = c.self.invariant.0;
      room = c.self.invariant.1;
      at = c.place.ensures.value;
      plays = c.requires.plays;
      is = c.index_mut.ensures.value;
    }) c.requires.other c.requires.leaves c.requires.uncut c.requires.held).still
