pub mod Sha256
pub mod Absorbed
pub mod Laws
