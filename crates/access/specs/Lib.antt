-- The definitions that the contracts cite.
pub mod Access
pub mod Targets
