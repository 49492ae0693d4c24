-- The definitions that clauses cite.
pub mod Chain
pub mod Escapes
pub mod Literals
pub mod Names
pub mod Numbers
pub mod Text
