pub mod Change
pub mod Fitting
pub mod Keeps
pub mod Renew
