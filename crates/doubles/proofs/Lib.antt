-- Laws that the proofs cite.
pub mod Nan
pub mod Cut
pub mod Halves
