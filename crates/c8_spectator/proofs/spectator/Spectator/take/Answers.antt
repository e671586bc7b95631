-- The rows behind those that the watcher has are added one by one, and the game has a frame for each.
use Rattle.std.proofs.Common.{◌≡◌, ◌-◌, ◌+◌, ℕ, List, length, drop, sym, ap, ◌∙◌, arith}
use Rattle.std.proofs.lemmas.List.{length-drop}
use Rattle.c8_game.specs.declared.row.Row.{Row}
use Rattle.c8_wire.specs.Lent.{shown, show_of}
use Rattle.c8_wire.specs.Packet.{ShowMessage}
use Rattle.c8_spectator.specs.Watching.{WatchValue, with_rows}
use Rattle.c8_spectator.proofs.RowLemmas.{drop_one, with_one_more, has_room, taken_some}
use Rattle.c8_spectator.proofs.spectator.Spectator.take.Goals as goal

pub add-requires : goal.add-requires
add-requires c =
    let rows : List Row = shown c.rows-rows.result in
    let first : ℕ = c.len.result - c.start.result in
    let viewed : length c.self.inside.rows.items ≡ length c.args.self.now.rows = ap (λ (w : WatchValue). length w.rows) c.self.view_is in
    let held : c.len.result ≡ length c.args.self.now.rows = omega (arith, c.len.ensures, viewed) in
    let long : length rows ≡ length (show_of c.args.show.now).rows = ap (λ (all : List Row). length all) c.rows-rows.ensures.rows in
    has_room c.loop-place.self c.args.self.now (drop c.loop-place.place rows) (drop first rows) c.loop-place.invariant
    (omega (arith, length-drop c.loop-place.place rows, c.loop-place-test.true, c.len-place-end.ensures.count))
    (omega (
      arith,
      length-drop first rows,
      held,
      long,
      c.loop-place-test.true,
      c.len-place-end.ensures.count,
      c.loop-place.auto.place,
      c.requires.after,
      c.requires.within,
      c.start.ensures.value,
    ))

pub loop-place-preserved : goal.loop-place-preserved
loop-place-preserved c =
    let rows : List Row = shown c.rows-rows.result in
    let left : List Row = drop (c.loop-place.place + 1) rows in
    ap (λ (w : WatchValue). with_rows w left) c.add.ensures ∙ with_one_more c.loop-place.self c.get.result left
    ∙ ap (λ (all : List Row). with_rows c.loop-place.self all) (sym (drop_one c.loop-place.place rows c.get.result c.get.ensures))
    ∙ c.loop-place.invariant

pub returns-then-first-len-clause-taken : goal.returns-then-first-len-clause-taken
returns-then-first-len-clause-taken c =
    let m : ShowMessage = show_of c.args.show.now in
    let viewed : length c.self.inside.rows.items ≡ length c.args.self.now.rows = ap (λ (w : WatchValue). length w.rows) c.self.view_is in
    let held : c.len.result ≡ length c.args.self.now.rows = omega (arith, c.len.ensures, viewed) in
    let long : length (shown c.rows-rows.result) ≡ length m.rows = ap (λ (all : List Row). length all) c.rows-rows.ensures.rows in
    sym (taken_some (length c.args.self.now.rows - m.start) m.rows
    (omega (arith, held, long, c.if-first-len.true, c.len-2.ensures.count, c.start.ensures.value)))
