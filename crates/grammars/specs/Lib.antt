-- The definitions of the crate.
pub mod Numbers
pub mod Packing
pub mod Grammar
pub mod Right
pub mod Moving
pub mod Rows
pub mod RowGrammar
pub mod Flat
pub mod FlatGrammar
pub mod Lines
pub mod Choosing
pub mod Reading
