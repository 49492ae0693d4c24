-- The definitions that clauses cite.
pub mod Terms
pub mod Machine
pub mod Setting
pub mod Code
pub mod Constants
pub mod Insert
pub mod Llvm
pub mod Renamed
pub mod Dialect
pub mod Pairs
pub mod Shape
pub mod Woven
pub mod Examples
pub mod WovenExamples
