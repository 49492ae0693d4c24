-- The lemmas of the crate.
pub mod EscapeLaws
pub mod NameBytes
pub mod NameLaws
pub mod NumberLaws
pub mod LiteralLaws
pub mod QuoteLaws
pub mod SymbolLaws
pub mod TextBytes
