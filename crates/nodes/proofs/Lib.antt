-- Laws that the proofs share.
pub mod Copies
pub mod Lists
pub mod Numbering
pub mod Bounds
pub mod Seeds
pub mod Shown
