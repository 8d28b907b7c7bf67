pub mod Turns
pub mod Absorbing
pub mod Exact
pub mod Writing
pub mod Choosing
