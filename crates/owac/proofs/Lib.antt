pub mod Floored
