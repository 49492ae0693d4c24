-- The lemmas of the crate.
pub mod ByteLaws
pub mod FitLaws
pub mod LaneLaws
pub mod OrderLaws
pub mod PieceLaws
pub mod PlainLaws
pub mod RunLaws
pub mod TokenLaws
