-- The definitions of the crate.
pub mod Constants
pub mod Scopes
pub mod Meaning
pub mod TableViews
pub mod BlockViews
pub mod ScopeViews
pub mod SourceViews
pub mod StructViews
pub mod BodyViews
pub mod TypedViews
pub mod FunctionViews
pub mod AddingViews
pub mod Bits
