-- A machine read from bytes.
use Rattle.std.specs.Prelude.{◌≡◌, ℕ, List}
use Rattle.c8_machine.specs.State.{State, IsState}
use Rattle.c8_digest.specs.StateBytes.{state_bytes}
use Rattle.c8_digest.specs.Reading.{state_in}

-- the state is that of a machine with these bytes, and the bytes determine it
pub record HasBytes (bytes : List ℕ) (s : State) : Type 0 where
  pub is : IsState s
  pub spelled : state_bytes s ≡ bytes
  pub told : s ≡ state_in bytes
