-- Laws that the proofs share.
pub mod Growth
pub mod Arrivals
pub mod Steps
pub mod Lent
pub mod Turns
pub mod Walking
pub mod Draining
pub mod Covering
pub mod Starting
pub mod Verdicts
