pub mod FalseLemmas
