-- A log that is up makes one disk read, and the slots in it have the kept bodies of their numbers.
use Rattle.std.proofs.Common.{◌≡◌, ◌<◌, ◌+◌, ℕ, List, Some, Ok, Err, false, rules, sym, ◌∙◌, ap, subst, arith}
use Rattle.c8_log.specs.Slots.{body_of, kept_count}
use Rattle.c8_log.proofs.Kept.{kept_at}
use Rattle.c8_log.proofs.Blocks.{body_there}
use Rattle.c8_log.proofs.Repair.{rests, still_up}
use Rattle.std.proofs.lemmas.Grind.{common_steps}
use Rattle.std.proofs.lemmas.Result.{err_from_is_err_and}
use Rattle.c8_disk.specs.Asks.{Reads, Asks}
use Rattle.c8_disk.specs.checked.AsksLaws.{asks_read, asks_as}
use Rattle.c8_log.proofs.Asked.{told_error}
use Rattle.c8_log.proofs.log.Log.read_slots.Goals as goal

pub returns-clause-bytes : goal.returns-clause-bytes
returns-clause-bytes g c = grind (arith, common_steps)

pub returns-clause-bodies : goal.returns-clause-bodies
returns-clause-bodies g c = λ i lt.
    let image = g.D.Disk.seen c.args.self.now.disk in
    let up = c.self.invariant c.if-self.false in
    let count_is : c.self.inside.count ≡ c.args.self.now.count = ap (λ log. log.count) c.self.view_is in
    let there : c.args.n + i < kept_count (g.D.Disk.seen c.self.inside.disk) = omega (arith, lt, c.requires.within, up.count_is, count_is) in
    let within : c.args.n + i < kept_count image = subst (λ log. c.args.n + i < kept_count (g.D.Disk.seen log.disk)) c.self.view_is there in
    kept_at image (c.args.n + i) within ∙ ap Some
    (sym (ap (λ (l : List ℕ). body_of l i) (returns-clause-bytes g c) ∙ body_there image c.args.n c.args.many i lt))

pub returns-in_err-read_at-clause-does : goal.returns-in_err-read_at-clause-does
returns-in_err-read_at-clause-does g c = record {
  reads = search rules;
  asks = λ up.
      let error = err_from_is_err_and c.from_residual.result c.from_residual.ensures.1 in
      let why = c.in_err-read_at.field-0.0 in
      rw (error.1, error.2)
      (asks_as g.D.Disk (Reads 1) c.args.self.now.disk c.read_at.new.self (Err why) _ (told_error (Unit {0}) why)
      (subst (λ log. Asks g.D.Disk (Reads 1) (Err why) log.disk c.read_at.new.self) c.self.view_is
      (asks_read g.D.Disk c.self.inside.disk c.read_at.new.self _ _ c.read_at.result (Err why) c.in_err-read_at.was c.read_at.ensures.does)));
  ok = search rules;
  at_rest = search rules;
  unfailed = search rules;
  err = search rules;
  failed = search rules;
  never_full = search rules;
  down = search rules;
  down_leaves = search rules;
}

pub returns-clause-does : goal.returns-clause-does
returns-clause-does g c = record {
  reads = search rules;
  asks = λ up.
      subst (λ log. Asks g.D.Disk (Reads 1) (Ok tt) log.disk c.read_at.new.self) c.self.view_is
      (asks_read g.D.Disk c.self.inside.disk c.read_at.new.self _ _ c.read_at.result (Ok tt) c.in_ok-read_at.was c.read_at.ensures.does);
  ok = search rules;
  at_rest =
      rests g.D.Disk (record { disk = c.read_at.new.self; count = c.self.inside.count; down = false })
      (still_up g.D.Disk c.self.inside.disk c.read_at.new.self c.self.inside.count (c.self.invariant c.if-self.false) c.read_at.ensures.seen
      c.read_at.ensures.crash);
  unfailed = search rules;
  err = search rules;
  failed = search rules;
  never_full = search rules;
  down = search rules;
  down_leaves = search rules;
}
