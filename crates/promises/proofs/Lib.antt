-- Why the promises of check, run, map and need follow from the definitions.
pub mod Promised
pub mod MapPromised
pub mod NeedPromised
