-- Laws that the proofs cite.
pub mod OperandLaws
pub mod PointerLaws
