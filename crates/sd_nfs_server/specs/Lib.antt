pub mod Fits
pub mod Plan
pub mod Steps
pub mod Placing
pub mod Live
pub mod Acts
