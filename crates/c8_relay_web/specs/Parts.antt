-- What is sent of a page.
use Rattle.std.specs.Prelude.{ℕ, List, take}
use Rattle.c8_relay_web.specs.declared.page.Part.{Part}
use Rattle.c8_relay_web.specs.declared.page.Part.TheVariants.{Whole, Head, Unchanged}

-- the whole response, its head alone, or the response that says that nothing has changed
abbrev pub part_of : Part → List ℕ → ℕ → List ℕ → List ℕ
part_of Whole whole head unchanged = whole
part_of Head whole head unchanged = take head whole
part_of Unchanged whole head unchanged = unchanged
