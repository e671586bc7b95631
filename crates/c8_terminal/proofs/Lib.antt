-- A terminal that reads a painting shows its points, and what it sends is decoded; begin at `PaintingLemmas`.
pub mod RangeLemmas
pub mod RowLemmas
pub mod LineLemmas
pub mod ByteLemmas
pub mod CellLemmas
pub mod PaintingLemmas
pub mod KeyboardLemmas
pub mod DecodingLemmas
pub mod HeldLemmas
pub mod SentLemmas
pub mod StrokeLemmas
-- The median lateness is the first place at which the counts reach half of their sum.
pub mod BeatLemmas
