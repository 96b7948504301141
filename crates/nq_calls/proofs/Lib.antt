pub mod MentionLemmas
pub mod CallLemmas
pub mod FallLemmas
pub mod LineLemmas
pub mod UseLemmas
pub mod ApartLemmas
pub mod CountedLemmas
