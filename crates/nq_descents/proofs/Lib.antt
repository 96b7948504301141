pub mod OwnLemmas
pub mod PairLemmas
