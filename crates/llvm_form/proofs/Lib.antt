-- The lemmas of the crate.
pub mod AllLaws
pub mod FewLaws
pub mod TypeLaws
pub mod CodeLaws
pub mod WholeLaws
pub mod FormLaws
