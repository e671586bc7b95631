-- The chunks below this number are kept, and nothing else of the cast changes.
use Rattle.std.proofs.Common.{◌≡◌, length}
use Rattle.c8_cast.specs.Cast.{with_folder}
use Rattle.c8_cast.proofs.cast.Cast.add_chunks.Given as goal

abbrev pub invariant-loop-number : goal.invariant-loop-number
invariant-loop-number g l = record {
  rest : l.self ≡ with_folder l.fn.self l.self.folder;
  tails : g.F.Folder.tails l.self.folder ≡ g.F.Folder.tails l.fn.self.folder;
  count : length (g.F.Folder.chunks l.self.folder) ≡ l._number;
}
