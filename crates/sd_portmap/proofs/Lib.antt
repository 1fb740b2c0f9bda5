pub mod Kept
pub mod Mapped
pub mod Told
pub mod Read
