-- One read gives the block, and its bytes tell where its kept slots end.
use Rattle.std.proofs.Common.{◌≡◌, ◌-◌, min, ℕ, length, take, drop, Ok, Err, rules, ap, ◌∙◌}
use Rattle.std.proofs.lemmas.Result.{err_from_is_err_and}
use Rattle.c8_disk.specs.checked.AsksLaws.{asks_read}
use Rattle.c8_log.specs.Slots.{kept_count}
use Rattle.c8_log.specs.Log.{has_closed_gate}
use Rattle.c8_log.proofs.Blocks.{cut_block}
use Rattle.c8_log.proofs.end.end_in.Given as given
use Rattle.c8_log.proofs.end.end_in.Goals.{After-end_of}
use Rattle.c8_log.proofs.end.end_in.Goals as goal

-- what was read is the block
is_block : (g : given.Over) (c : After-end_of g) → c.read_at.new.buffer ≡ take 4608 (drop c.args.at (g.D.Disk.seen c.args.disk.now))
is_block g c =
    let image = g.D.Disk.seen c.args.disk.now in
    let many : c.min-size.result ≡ min (length image - c.args.at) 4608 = search rules in
    let size : length (take c.min-size.result c.args.block.now.bytes) ≡ c.min-size.result = search rules in
    c.in_ok-read_at.ensures.read ∙ ap (λ (n : ℕ). take n (drop c.args.at image)) size ∙ cut_block image c.args.at c.min-size.result many

pub returns-in_err-read_at-clause-asks : goal.returns-in_err-read_at-clause-asks
returns-in_err-read_at-clause-asks g c =
    let error = err_from_is_err_and c.from_residual.result c.from_residual.ensures.1 in
    let why = c.in_err-read_at.field-0.0 in
    rw (error.1, error.2) (asks_read g.D.Disk c.args.disk.now c.read_at.new.self _ _ c.read_at.result (Err why) c.in_err-read_at.was
    c.read_at.ensures.does)

pub returns-clause-count : goal.returns-clause-count
returns-clause-count g c = c.end_of.ensures.count ∙ ap kept_count (is_block g c)

pub returns-clause-closed : goal.returns-clause-closed
returns-clause-closed g c = c.end_of.ensures.closed ∙ ap has_closed_gate (is_block g c)

pub returns-clause-asks : goal.returns-clause-asks
returns-clause-asks g c = asks_read g.D.Disk c.args.disk.now c.read_at.new.self _ _ c.read_at.result (Ok tt) c.in_ok-read_at.was
    c.read_at.ensures.does
