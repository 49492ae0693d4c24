-- The lemmas that proofs cite.
pub mod HandLaws
pub mod TraceLaws
