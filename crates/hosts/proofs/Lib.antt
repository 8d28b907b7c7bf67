pub mod Floored
pub mod Imaged
