pub mod Above
pub mod Import
pub mod Said
