pub mod Releasing
pub mod Law
pub mod Sent
pub mod Telling
