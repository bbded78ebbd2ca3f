pub mod Transcripts
pub mod Vectors
