pub mod Calls
pub mod Says
pub mod Places
pub mod Peers
pub mod Insertions
pub mod Neighbours
