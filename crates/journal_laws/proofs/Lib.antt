pub mod Marks
pub mod Telling
pub mod Piling
pub mod Placing
pub mod Imaging
