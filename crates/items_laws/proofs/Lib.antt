pub mod Written
pub mod Backs
pub mod Accepted
pub mod Unique
pub mod Passing
pub mod Finding
pub mod Runnings
pub mod Inner
