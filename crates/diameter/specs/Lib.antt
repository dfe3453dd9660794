pub mod Avp
pub mod AvpAt
pub mod Message
pub mod Put
pub mod Reader
pub mod Walk
