-- The definitions of the crate.
pub mod Parts
pub mod Words
pub mod Values
pub mod Folding
pub mod Lists
pub mod Shapes
pub mod Views
pub mod Growing
pub mod Stack
