pub mod Sources
pub mod Choosing
pub mod Raising
