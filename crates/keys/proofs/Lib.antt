pub mod Places
pub mod Chain
pub mod Files
pub mod Translation
