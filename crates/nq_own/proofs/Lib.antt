pub mod OwnLemmas
