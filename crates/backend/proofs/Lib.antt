pub mod Stopping
pub mod Parts
pub mod TargetTexts
pub mod DefaultPaths
pub mod FileEdges
pub mod Counting
pub mod FaultLines
pub mod Ends
mod BuildFileExamples
