pub mod Elements
pub mod UserData
