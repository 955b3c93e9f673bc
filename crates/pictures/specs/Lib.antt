pub mod Sequence
pub mod Cadence
pub mod Seen
pub mod Front
pub mod Answers
pub mod Order
pub mod Due
pub mod Numbers
