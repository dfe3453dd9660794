pub mod Authentication
pub mod Authorization
pub mod Carried
pub mod Location
