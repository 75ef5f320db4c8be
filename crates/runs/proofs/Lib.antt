pub mod Final
pub mod Arguments
pub mod Bodies
pub mod Profiles
pub mod Returns
pub mod Resumed
pub mod Over
pub mod Waits
