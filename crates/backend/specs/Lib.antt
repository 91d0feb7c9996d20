pub mod BuildFile
pub mod Parts
pub mod FileEdges
pub mod Means
pub mod FaultSteps
pub mod Document
pub mod Concluding
