pub mod Numbers
pub mod Supplies
pub mod Answers
pub mod Calls
