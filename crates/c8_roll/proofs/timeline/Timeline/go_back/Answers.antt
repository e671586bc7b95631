-- The machine of a snapshot, with the snapshots before it, is a timeline again: that of the frames up to it.
use Rattle.std.proofs.Common.{◌≡◌, ◌<◌, length, inl, sym, ap, subst, ◌∙◌, arith}
use Rattle.std.specs.Option.{option_copied}
use Rattle.c8_machine.specs.declared.machine.Machine.{Machine}
use Rattle.c8_roll.specs.checked.Timeline.{TimelineValue, machine_or, machine_at, back_at, IsTimeline}
use Rattle.c8_roll.proofs.TimelineLemmas.{back_is}
use Rattle.c8_roll.proofs.timeline.Timeline.go_back.Goals as goal

pub invariant_of-self-2 : goal.invariant_of-self-2
invariant_of-self-2 c =
    let place = c.in_ok-place.place in
    let t : TimelineValue = record {
      rules = c.self.inside.game.now;
      first = c.self.inside.first;
      ticks = c.self.inside.ticks;
      shown = c.self.inside.shown;
      snapshots = c.self.inside.snapshots.items;
      room = c.self.inside.snapshots.capacity;
      last_run = c.self.inside.last_run;
    } in
    let shown : machine_at t place ≡ c.in-Some.snapshot.now.machine = ap (machine_or t.shown) (sym c.get.ensures ∙ ap option_copied c.in-Some.is) in
    let few : place < length t.snapshots = c.in_ok-place.ensures.none.0 in
    rw c.truncate_back.ensures (subst (λ (m : Machine). IsTimeline (record (back_at t place) { shown = m })) shown
    (back_is t place c.self.invariant (omega (arith, few)) (inl few)))
