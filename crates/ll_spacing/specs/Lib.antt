-- The definitions that clauses cite.
pub mod Following
pub mod Forms
pub mod Spacing
pub mod Writing
