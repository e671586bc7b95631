-- The entry that was taken off the end of the list is one of this very ether.
use Rattle.std.proofs.Common.{rules, ◌≡◌, ◌++◌, ◌∷◌, []}
use Rattle.c8_thread_tests.proofs.Entries.{last_entry}
use Rattle.c8_thread_tests.proofs.ethers.a_draw_gives_what_was_posted.Goals as goal

pub draws-requires-clause-entry : goal.draws-requires-clause-entry
draws-requires-clause-entry g c =
    let ends : c.in_ok-ether.entries.items ≡ c.pop.new.self.items ++ c.in-Some.entry ∷ [] = search rules in
    last_entry c.in_ok-ether.ether.ether _ c.in_ok-ether.entries.items c.pop.new.self.items c.in-Some.entry c.in_ok-ether.ensures.entries ends
