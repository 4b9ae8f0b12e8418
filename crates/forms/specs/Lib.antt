pub mod VerdictForm
pub mod VerdictsBack
pub mod VerdictWriting
