pub mod Plain
pub mod Keeping
pub mod Table
pub mod History
