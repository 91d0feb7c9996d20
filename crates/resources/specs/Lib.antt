pub mod Fitting
pub mod Found
pub mod Installs
pub mod Joined
pub mod Testing
pub mod TestingView
pub mod Beside
