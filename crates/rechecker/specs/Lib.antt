-- What the check with a record and the check of one body promise.
pub mod Flags
