pub mod End
pub mod Front
pub mod Header
