-- The definitions that clauses cite.
pub mod Forward
pub mod Types
pub mod Parts
pub mod Names
pub mod Given
pub mod Refusals
pub mod Steps
pub mod Constants
