-- The lemmas of the crate.
pub mod CutLaws
pub mod FollowLaws
pub mod FoundLaws
pub mod NameLaws
pub mod NumberLaws
pub mod PieceLaws
pub mod RunLaws
pub mod SignLaws
pub mod SpaceLaws
pub mod SpoilLaws
pub mod TextLaws
pub mod WholeFloatLaws
pub mod WholeLaws
pub mod WordLaws
