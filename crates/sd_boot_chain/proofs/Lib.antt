pub mod Addressing
pub mod Dropping
pub mod Looking
pub mod Booting
pub mod Turned
pub mod Fetching
pub mod Pausing
pub mod Stepping
mod Needing
mod Replying
mod Saying
pub mod Fetched
pub mod FetchSends
pub mod TrustedFile
pub mod ClientSends
pub mod Trusting
pub mod Rooting
pub mod PartSends
pub mod KeptOff
