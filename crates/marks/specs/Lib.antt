pub mod Positions
pub mod Device
pub mod Supplies
pub mod State
pub mod Table
pub mod Octets
