-- Counter, registers, timers, stack and condition are added one after another to what was written.
use Rattle.std.proofs.Common.{codes}
use Rattle.c8_texts.specs.checked.Grows.{grows_then}
use Rattle.c8_texts.proofs.ReportLemmas.{known, grows_two, grows_more}
use Rattle.c8_texts.proofs.report.write_parts.Goals as goal

pub returns : goal.returns
returns g c =
    let start = g.W.Write.contents c.args.out.now in
    let counters = g.W.Write.contents c.writeln.new.self in
    let registers = g.W.Write.contents c.write_registers.new.out in
    let timers = g.W.Write.contents c.writeln-2.new.self in
    let stack = g.W.Write.contents c.write_stack.new.out in
    let first = grows_two start counters _ _ (codes "pc ") (codes " i ") _ _ _ _ c.in_radix.ensures c.in_radix-2.ensures _ (known _)
    c.in_ok-writeln.ensures.bytes in
    let second = grows_two registers timers _ _ (codes "timer ") (codes " tone ") _ _ _ _ c.in_radix-3.ensures c.in_radix-4.ensures _
    (known _) c.in_ok-writeln-2.ensures.bytes in
    grows_more start stack (g.W.Write.contents c.write_condition.new.out) c.write_condition.result
    (grows_then start timers stack (grows_then start registers timers
    (grows_then start counters registers first c.in_ok-write_registers.ensures) second) c.in_ok-write_stack.ensures) c.write_condition.ensures
