-- The table of calls row by row, what the check leaves for it, and what the functions promise.
pub mod Rows
pub mod After
pub mod Told
