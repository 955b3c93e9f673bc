pub mod Bits
pub mod Refusals
pub mod StartCodes
pub mod Fields
pub mod Answers
pub mod Numbers
