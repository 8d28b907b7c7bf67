mod Plain
mod Spelling
