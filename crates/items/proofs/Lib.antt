pub mod Chains
pub mod Sizes
pub mod Steps
pub mod Picks
pub mod Seeking
