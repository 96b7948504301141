pub mod Spelled
pub mod SpelledTerms
pub mod SpelledEvents
pub mod ReadBack
