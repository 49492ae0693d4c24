-- The definitions that clauses cite.
pub mod ConstantReading
pub mod Constants
pub mod Numbers
pub mod Reading
pub mod Spelling
pub mod Symbols
pub mod Tokens
