-- The lemmas of the crate.
pub mod TableLaws
pub mod WalkLaws
pub mod InsideLaws
pub mod PlacedLaws
pub mod ValueLaws
pub mod LackLaws
