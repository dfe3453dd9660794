pub mod Call
pub mod Leaves
pub mod Lent
pub mod Serve
