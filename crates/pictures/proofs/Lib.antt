pub mod Seeing
pub mod Showing
pub mod Order
pub mod Due
pub mod Numbering
pub mod Cases
pub mod Cadences
