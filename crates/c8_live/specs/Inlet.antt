-- What the two ends of an inlet stand for.
use Rattle.std.specs.Prelude.{ℕ, List}
use Rattle.std.specs.Global.{Global}
use denote.RawPtr.{Ptr}

-- the identity of an inlet: its room in packets, and what distinguishes it from others; both ends have the same
pub record InletId : Type 0 where
  pub places : ℕ
  pub marks : ℕ × ℕ
  pub words : Ptr
  pub slots : Ptr
  pub heap : Global

-- the end that puts: its inlet, each packet that was put, oldest first, and how many places it knows to be free
pub record PutterValue : Type 0 where
  pub inlet : InletId
  pub put : List (List ℕ)
  pub free : ℕ

-- the end that takes: its inlet, each packet that was taken, oldest first, and the packets that it has seen inside, the
-- next one to be taken first
pub record TakerValue : Type 0 where
  pub inlet : InletId
  pub taken : List (List ℕ)
  pub seen : List (List ℕ)

-- an end that has put its last packet: its inlet, and each packet that was put
pub record EndedValue : Type 0 where
  pub inlet : InletId
  pub put : List (List ℕ)
