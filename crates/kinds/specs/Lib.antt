-- The definitions that contracts cite.
pub mod Types
pub mod Rules
pub mod Access
pub mod Table
pub mod Fitting
pub mod Fill
pub mod Typing
pub mod Held
pub mod Structs
pub mod Names
