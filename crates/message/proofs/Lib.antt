pub mod Bounds
pub mod Ids
pub mod Scans
