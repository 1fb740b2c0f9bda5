pub mod OneCall
