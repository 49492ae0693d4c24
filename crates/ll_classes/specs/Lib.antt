-- The definitions of the crate.
pub mod Buckets
pub mod Names
pub mod Words
pub mod Classes
pub mod Llvm
