pub mod Features
pub mod Found
pub mod Identity
pub mod Judged
pub mod NextIdentity
pub mod Request
