pub mod Inputs
pub mod Frames
pub mod Questions
pub mod Stages
pub mod Effects
