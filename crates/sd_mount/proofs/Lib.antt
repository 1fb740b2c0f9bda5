pub mod Kept
pub mod Mounted
pub mod Told
pub mod Read
