pub mod Sample
pub mod Laws
pub mod Examples
