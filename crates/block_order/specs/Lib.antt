-- The definitions that contracts cite.
pub mod Graph
pub mod Order
pub mod Marks
pub mod DepthFirst
pub mod Walking
pub mod Tree
pub mod Dominance
