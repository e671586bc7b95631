-- The lines of one more batch are written behind those before it.
use Rattle.std.proofs.Common.{◌≤◌, length, take, subst, sym, List, rules}
use Rattle.std.specs.Prelude.{String, string_bytes, slice_range}
use Rattle.std.specs.declared.alloc.Global.{Global}
use Rattle.std.specs.List.{AllZip}
use Rattle.c8_command.specs.declared.status.Status.TheVariants.{Done}
use Rattle.c8_judge.specs.Matches.{IsLine, TellsLines}
use Rattle.c8_judge.specs.declared.matches.Line.{Line}
use Rattle.c8_judge.proofs.MatchLemmas.{names_more, tells_more}
use Rattle.c8_judge.proofs.matches.audit_all.Goals as goal

pub loop-done-preserved : goal.loop-done-preserved
loop-done-preserved g c =
    let names = c.args.names.now in
    let old = g.W.Write.contents c.args.out.now in
    let new = g.W.Write.contents c.write_lines.new.out in
    let up : c.loop-done.done ≤ c.min-end.result = search rules in
    let within : c.min-end.result ≤ length names = search rules in
    let are = subst (λ (lines : List Line). AllZip (λ (name : String Global) line. IsLine (string_bytes name) line)
    (slice_range names c.loop-done.done c.min-end.result) lines) (sym c.deref.ensures.value) c.in_ok-lines.ensures in
    let more = tells_more (take c.loop-done.done names) (slice_range names c.loop-done.done c.min-end.result) c.deref.result.now Done
    c.loop-done.worst c.in_ok-worst.worst old (g.W.Write.contents c.loop-done.out) new c.loop-done.invariant.1 are
    c.in_ok-worst.ensures.0 c.in_ok-worst.ensures.1 in (
      within,
      subst (λ (some : List (String Global)). TellsLines some Done old new c.in_ok-worst.worst)
          (names_more names c.loop-done.done c.min-end.result up) more,
    )
