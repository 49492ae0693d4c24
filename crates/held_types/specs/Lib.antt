-- The definitions that clauses cite.
pub mod Held
pub mod Table
pub mod Walk
pub mod Values
pub mod Lacks
