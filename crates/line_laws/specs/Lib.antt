pub mod Passing
pub mod Returning
