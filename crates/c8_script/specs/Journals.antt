-- The journals that a match leaves.
use Rattle.std.specs.Prelude.{◌≡◌}
use Rattle.c8_world.specs.Disks.{image_in}
use Rattle.c8_world.specs.Table.{TableValue, node_of}
use Rattle.c8_script.specs.declared.journals.Journals.{Journals}

-- what a read of each player's disk gives
pub record AreImages (t : TableValue) (journals : Journals) : Type 0 where
  pub one : journals.one.items ≡ image_in (node_of t 1)
  pub two : journals.two.items ≡ image_in (node_of t 2)
  pub three : journals.three.items ≡ image_in (node_of t 3)
  pub four : journals.four.items ≡ image_in (node_of t 4)
