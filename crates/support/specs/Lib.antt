-- The definitions that contracts cite.
pub mod Interned
pub mod Options
pub mod Changes
pub mod Maps
pub mod ShortLists
pub mod Texts
pub mod NumberMaps
pub mod Appended
