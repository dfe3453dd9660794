pub mod Contents
pub mod Features
pub mod Groups
pub mod Kinds
pub mod Places
pub mod Rules
pub mod Verdicts
