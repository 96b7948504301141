pub mod DepthLemmas
pub mod ScopeLemmas
pub mod TranslationExamples
pub mod PrintedObjects
pub mod PrintedCalls
pub mod PrintedForms
pub mod PrintedSymbols
pub mod PrintingExamples
