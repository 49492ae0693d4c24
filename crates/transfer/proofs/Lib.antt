-- The lemmas of the crate.
pub mod SameFunctions
pub mod CauseLaws
pub mod TransferLaws
pub mod BegunLaws
