-- The definitions that clauses cite.
pub mod Types
pub mod TypePlaces
pub mod Table
pub mod Contents
pub mod Tables
pub mod Bodies
pub mod Runs
pub mod Renamed
pub mod LlvmBodies
pub mod DialectBodies
pub mod DialectEdges
