pub mod Reading
pub mod Line
pub mod Judged
pub mod Commanding
