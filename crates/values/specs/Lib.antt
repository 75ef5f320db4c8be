-- The definitions that the contracts cite.
pub mod Values
pub mod Changes
