pub mod Before
pub mod Calls
pub mod Lines
pub mod Named
pub mod Neighbour
pub mod Others
pub mod Records
pub mod Sights
