pub mod Tokens
pub mod Readers
pub mod Scans
pub mod Lines
