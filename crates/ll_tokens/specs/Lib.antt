-- The definitions that clauses cite.
pub mod Bytes
pub mod Pieces
pub mod Runs
pub mod Tokens
