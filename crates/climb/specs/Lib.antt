-- What is kept of nodes that wait, and what one instruction of a walk leaves.
pub mod Waits
pub mod Turns
