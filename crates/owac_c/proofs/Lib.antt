mod Told
pub mod Zeros
