pub mod Layers
pub mod Telling
pub mod Laws
pub mod Stream
pub mod Ways
pub mod Declaring
