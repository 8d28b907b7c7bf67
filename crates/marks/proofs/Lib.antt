pub mod Filling
pub mod Images
pub mod Tables
pub mod Pairs
pub mod Spending
