pub mod Lent
pub mod Steps
pub mod Check
pub mod Send
pub mod Calls
pub mod Numbers
