-- The laws that the answers of all crates share.
pub mod OptionLaws
pub mod ResultLaws
pub mod ListLaws
pub mod InternedLaws
pub mod KeepLaws
pub mod NumberMapLaws
