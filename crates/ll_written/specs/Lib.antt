-- The definitions of the crate.
pub mod Printing
pub mod Written
pub mod Writable
pub mod Saying
pub mod Classed
pub mod Rules
pub mod Reading
