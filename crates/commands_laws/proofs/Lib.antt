pub mod ByType
pub mod Counting
pub mod Leaves
pub mod Orderings
pub mod Releasing
pub mod Rising
pub mod Sent
