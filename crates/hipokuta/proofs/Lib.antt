pub mod Checking
pub mod Reporting
pub mod Places
pub mod Sending
pub mod Numbers
pub mod Refusals
pub mod FromC
