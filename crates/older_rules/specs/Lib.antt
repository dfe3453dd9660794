pub mod WithBranch
pub mod WithoutFeatures
pub mod WithoutSets
