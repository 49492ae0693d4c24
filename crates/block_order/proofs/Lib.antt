-- The lemmas of the crate.
pub mod ListLemmas
pub mod GraphLemmas
pub mod ExploringLemmas
pub mod WalkingLemmas
pub mod OrderingLemmas
pub mod ExploredLemmas
pub mod OrderLemmas
pub mod LawLemmas
pub mod TreeLemmas
pub mod DominanceLemmas
