pub mod Examples
pub mod Faulty
pub mod Fronts
pub mod Short
