-- Laws that the proofs share.
pub mod Stores
pub mod Search
pub mod Lists
pub mod Removal
pub mod Made
pub mod Runs
pub mod Marks
pub mod Giving
pub mod Places
pub mod Granted
pub mod Lent
pub mod Aimed
pub mod Sweeps
pub mod Packing
pub mod Collected
