-- Laws that the proofs share.
pub mod Records
pub mod Pool
pub mod Table
pub mod Cuts
pub mod Starts
pub mod BareRuns
pub mod Bodies
pub mod Opening
