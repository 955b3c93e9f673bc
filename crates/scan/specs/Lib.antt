pub mod Codes
pub mod Scanned
pub mod Pictures
pub mod Order
pub mod Steps
