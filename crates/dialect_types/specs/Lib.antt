-- The definitions that contracts cite.
pub mod Legalised
pub mod Names
pub mod Stored
pub mod Text
pub mod Trees
