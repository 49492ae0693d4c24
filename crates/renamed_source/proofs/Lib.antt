-- The laws of the crate.
pub mod KindLaws
pub mod SoundLaws
pub mod DataLaws
pub mod NameLaws
pub mod SourceLaws
pub mod ConstLaws
pub mod FormLaws
pub mod FittingLaws
pub mod StructLaws
