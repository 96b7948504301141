pub mod OwnTerms
