-- Laws that the proofs share.
pub mod Records
pub mod Refusals
pub mod Down
pub mod Parts
