pub mod Lists
pub mod Asking
pub mod Shape
pub mod WholeShape
pub mod Sent
pub mod Keys
pub mod ReadBack
pub mod TargetsShown
mod IntrospectionExamples
mod QuestionExamples
