pub mod CloseLaws
pub mod VerdictLaws
