-- Events and refusals.
pub mod Events
pub mod Refusals
-- Forms by their parts.
pub mod Parts
pub mod WrittenHints
pub mod Outlines
-- Terms and hints in a history.
pub mod TermRefusals
pub mod Inductions
pub mod HintTerms
pub mod HintRefusals
pub mod MadeNames
-- The event of a form, and what it is refused for.
pub mod Reading
pub mod OwnRefusals
pub mod Effects
pub mod Measures
-- Laws.
pub mod ReadTerms
pub mod EventTerms
pub mod AllowedEvents
-- Examples, as text.
pub mod Told
pub mod RefusalExamples
pub mod ShapeExamples
pub mod HintExamples
