pub mod Calm
pub mod Flight
pub mod Kept
pub mod Strays
pub mod Failing
pub mod Segment
pub mod Inside
pub mod Passing
