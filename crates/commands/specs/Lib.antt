pub mod Arguments
pub mod Orders
pub mod Kinds
pub mod Octets
pub mod Entries
pub mod Release
