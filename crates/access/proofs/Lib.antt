-- Laws that the proofs share.
pub mod Over
pub mod Leading
pub mod Through
pub mod BlockLaws
pub mod Structures
pub mod HeapKeys
pub mod Steps
