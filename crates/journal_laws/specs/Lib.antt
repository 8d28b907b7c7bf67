pub mod Runs
pub mod Calls
pub mod Piles
pub mod Places
pub mod Images
