pub mod Cadence
pub mod Table
pub mod History
pub mod Plain
