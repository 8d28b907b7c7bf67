pub mod Entries
pub mod Parts
pub mod Messages
pub mod Sizes
pub mod Checks
pub mod Fields
