pub mod Headers
pub mod Layer
