pub mod Numbers
pub mod Judging
