pub mod OneItem
pub mod Words
pub mod Spelled
pub mod Sound
pub mod Again
pub mod Whole
pub mod Loops
pub mod Writes
