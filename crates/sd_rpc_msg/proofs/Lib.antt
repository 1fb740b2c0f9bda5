pub mod Told
pub mod ToldUnix
