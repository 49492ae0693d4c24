-- The definitions that clauses cite.
pub mod Numbering
pub mod Parts
pub mod Printing
