-- The laws that the answers of all crates share.
pub mod TypeLaws
pub mod DepthLaws
pub mod NestLaws
pub mod RenamedLaws
pub mod PartLaws
pub mod FittingLaws
pub mod TableLaws
pub mod OpLaws
pub mod AccessLaws
pub mod HeldLaws
pub mod NameLaws
pub mod LaneLaws
