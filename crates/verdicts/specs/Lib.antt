pub mod Transcripts
pub mod Rows
pub mod Verdicts
pub mod Tags
pub mod Sound
pub mod Laws
