pub mod Heapless
pub mod Arms
pub mod Turns
