pub mod Features
pub mod Rules
pub mod Sets
pub mod Unreachable
pub mod WithoutSets
