-- The definitions that clauses cite.
pub mod Commands
pub mod Ending
pub mod Headline
pub mod Outside
pub mod Report
pub mod Rounding
pub mod Running
pub mod Stopping
