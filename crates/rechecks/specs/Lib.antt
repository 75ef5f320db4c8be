-- 02, A10: what is proved of records and of the check of one body.
pub mod Same
pub mod Whole
pub mod Files
