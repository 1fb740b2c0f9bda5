pub mod Config
pub mod Program
pub mod Events
pub mod Plan
pub mod Commands
