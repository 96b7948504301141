pub mod TermParts
pub mod TermForms
pub mod ReadTerms
pub mod EventTerms
pub mod AllowedEvents
