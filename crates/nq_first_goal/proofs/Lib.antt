pub mod TextLemmas
pub mod FalsehoodLemmas
pub mod FalsehoodTrees
pub mod Judgements
pub mod Tracings
pub mod SingleLemmas
