pub mod HeadLemmas
pub mod AnyLemmas
pub mod PartLemmas
pub mod DestructorLemmas
