pub mod Uses
pub mod Drops
pub mod Laws
pub mod Texts
