-- The definitions that clauses cite.
pub mod Same
pub mod Begun
