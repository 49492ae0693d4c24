-- The definitions that clauses cite.
pub mod Text
pub mod Trees
pub mod Typing
pub mod Verified
