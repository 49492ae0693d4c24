-- The lemmas of the crate.
pub mod NameLaws
pub mod GrowthLaws
pub mod GivesLaws
pub mod RefusalLaws
pub mod KindLaws
pub mod StepLaws
pub mod CheckedLaws
pub mod AttrLaws
pub mod ElementLaws
pub mod ConstantLaws
