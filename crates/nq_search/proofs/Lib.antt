pub mod SearchingLemmas
