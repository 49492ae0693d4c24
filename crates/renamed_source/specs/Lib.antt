-- The definitions that clauses cite.
pub mod Names
pub mod Source
