-- The definitions that contracts cite.
pub mod ArgumentMaps
pub mod ContextData
pub mod Data
pub mod Rules
pub mod Form
pub mod Lending
pub mod Links
pub mod Lists
pub mod Nested
pub mod ValueMaps
pub mod Numbering
pub mod Text
pub mod WellFormed
pub mod Checking
