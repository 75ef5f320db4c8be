pub mod Files
pub mod Frames
pub mod JumpLaws
pub mod CallLaws
pub mod ReturnLaws
