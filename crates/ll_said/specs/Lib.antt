-- The definitions of the crate.
pub mod Naming
pub mod Said
pub mod Sayable
pub mod Numbered
pub mod Examples
