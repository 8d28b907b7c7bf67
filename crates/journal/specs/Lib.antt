pub mod Journals
pub mod Floors
