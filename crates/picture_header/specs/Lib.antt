pub mod PictureHeader
pub mod CodingExtension
pub mod Picture
pub mod Facts
pub mod Answers
pub mod Steps
pub mod Stability
pub mod Numbers
