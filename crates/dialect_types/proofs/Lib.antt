-- The lemmas that proofs cite.
pub mod DepthLaws
pub mod DigitLemmas
pub mod GrowthLaws
pub mod KeyLemmas
pub mod LegalLaws
pub mod NamedLaws
pub mod PrintedTypes
pub mod StoredLaws
pub mod StructLaws
pub mod TextLemmas
pub mod TreeLemmas
