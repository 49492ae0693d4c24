-- The definitions of the crate.
pub mod Narrow
pub mod Once
