mod TermLemmas
mod FormalLemmas
mod AdmissionLemmas
