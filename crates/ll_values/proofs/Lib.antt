-- The lemmas of the crate.
pub mod ListLaws
pub mod GrowLaws
pub mod TableLaws
pub mod KeepLaws
pub mod KeptLaws
pub mod MakeLaws
pub mod SaidLaws
pub mod CountLaws
pub mod FieldLaws
pub mod PhiLaws
pub mod StackLaws
pub mod ElementLaws
pub mod WalkLaws
pub mod FileLaws
