pub mod Among
pub mod First
pub mod Halves
pub mod Places
pub mod Scans
