pub mod RowLaws
pub mod CheckLaws
pub mod PairLaws
