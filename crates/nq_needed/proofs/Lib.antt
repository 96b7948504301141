pub mod RenumberingLemmas
pub mod KeepingLemmas
