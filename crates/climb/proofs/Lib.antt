pub mod Arms
pub mod Nodes
pub mod Laws
pub mod Walking
pub mod Visiting
pub mod Starting
