pub mod JoinLaws
pub mod Writing
