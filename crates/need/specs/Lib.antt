-- The stack that an accepted module needs: definitions, and what is proved of them.
pub mod Steps
pub mod Safe
pub mod Grounds
pub mod Settle
pub mod Rises
pub mod Computed
pub mod Whole
