-- What the person asked for is taken, and nothing is read or written.
use Rattle.c8_play.proofs.DeskLemmas.{same_chain}
use Rattle.c8_play.proofs.alone.heed.Goals as goal

pub returns : goal.returns
returns g c =
    let help = same_chain g.C.Console c.args.desk.now c.take_spoilt.new.self c.take_wants_help.new.self c.take_spoilt.ensures
    c.take_wants_help.ensures in
    same_chain g.C.Console c.args.desk.now c.take_wants_help.new.self c.now.new.self help c.now.ensures
