-- Heights along walks: what an instruction does to them, what a walk notes, and what the code keeps of the nodes.
pub mod Plans
pub mod Walks
pub mod Steps
pub mod Leads
pub mod Jumps
pub mod Loop
pub mod Visits
pub mod Summing
