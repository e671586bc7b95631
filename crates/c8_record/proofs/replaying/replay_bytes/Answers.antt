-- The bodies that the bytes keep are taken one after another, all of them or up to a refused one.
use Rattle.c8_record.specs.Seen.{value_of as value_in}
use Rattle.c8_log.specs.Slots.{kept}
use Rattle.c8_record.proofs.ReplayLemmas.{read_none, read_of_game, read_more}
use Rattle.c8_record.proofs.replaying.replay_bytes.Goals as goal

pub loop-n-init : goal.loop-n-init
loop-n-init c = record {
  taken = read_none c.args.game.now c.args.known.now.me c.args.room (kept c.args.image.now) c.args.known.now (value_in c.args.checks.now)
      c.requires.nothing c.requires.new;
  all = c.kept_len-n-end.ensures;
}

pub take_body-requires : goal.take_body-requires
take_body-requires c = read_of_game c.args.game.now c.args.known.now.me c.args.room (kept c.args.image.now) c.loop-n.n c.loop-n.known
    (value_in c.loop-n.checks) c.loop-n.epoch c.loop-n.invariant.taken

pub loop-n-preserved : goal.loop-n-preserved
loop-n-preserved c = record {
  taken =
      read_more c.args.game.now c.args.known.now.me c.args.room (kept c.args.image.now) c.loop-n.n c.loop-n.known c.take_body.new.known
      (value_in c.loop-n.checks) (value_in c.take_body.new.checks) c.loop-n.epoch c.in_ok-epoch.epoch c.kept_body.result.now
      c.loop-n.invariant.taken c.kept_body.ensures c.in_ok-epoch.ensures.taken;
  all = c.loop-n.invariant.all;
}
