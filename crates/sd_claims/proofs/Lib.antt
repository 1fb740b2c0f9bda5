pub mod Counted
mod LastFault
mod Came
mod OneOutcome
mod OneRow
mod OneAnswer
