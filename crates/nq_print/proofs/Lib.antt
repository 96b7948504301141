pub mod ShapeLemmas
pub mod LetterLemmas
pub mod AtomLemmas
pub mod ObjectLemmas
pub mod TextLemmas
pub mod FormLemmas
