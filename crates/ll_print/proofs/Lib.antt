-- The lemmas of the crate.
pub mod ConstLaws
pub mod CountLaws
pub mod DigitLaws
pub mod EdgeLaws
pub mod FormLaws
pub mod KeptLaws
pub mod NumberLaws
pub mod OwnLaws
pub mod PartLaws
pub mod PositionLaws
pub mod ReachLaws
pub mod StructLaws
pub mod SpelledLaws
pub mod StrungLaws
pub mod FieldLaws
pub mod TextLaws
