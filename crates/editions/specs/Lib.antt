-- 02, A7: what is proved of the conversions between editions 3 and 4.
pub mod Paired
pub mod Alike
pub mod Conversions
pub mod Recoded
pub mod SameRuns
pub mod SameChecks
pub mod Converts
