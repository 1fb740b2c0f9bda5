pub mod Images
pub mod Input
pub mod PacketTexts
pub mod Play
pub mod Programs
pub mod Replay
pub mod Status
pub mod Words
