-- Laws that the proofs cite.
pub mod StackLaws
pub mod LocalLaws
pub mod PointerLaws
