-- Laws for the proofs of instructions.
pub mod Stack
pub mod Outcomes
pub mod Locals
pub mod Families
