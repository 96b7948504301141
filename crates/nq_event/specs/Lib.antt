-- What parts of forms are read as.
pub mod Reads
pub mod Shapes
pub mod Hints
-- Outlines and refusals, as the program has them.
pub mod Outlines
pub mod Faults
-- Events over ids.
pub mod EventsAt
-- Terms of events, and what parts of events are read as.
pub mod Arities
pub mod Readings
pub mod Definitions
pub mod Stated
pub mod HintSums
pub mod NameCounts
pub mod Untried
pub mod Parsed
-- Laws.
pub mod MadeNameLaw
