pub mod Mode
pub mod State
pub mod Config
pub mod Answers
pub mod Steps
