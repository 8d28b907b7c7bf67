pub mod Others
pub mod History
pub mod Frames
pub mod Run
