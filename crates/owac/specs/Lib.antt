pub mod Calls
pub mod Scripts
pub mod Sheets
pub mod Alone
pub mod Laid
