-- Drawing flips exactly the sprite's points that are on the screen; begin with PointLemmas.
pub mod PointLemmas
pub mod DrawLemmas
