pub mod Limits
pub mod Lines
pub mod Ids
pub mod Grammar
pub mod Rules
pub mod Judging
pub mod PacketWriting
pub mod Answers
