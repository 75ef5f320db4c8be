pub mod Types
pub mod Runs
pub mod Started
pub mod Cleared
pub mod Fold
pub mod Opening
