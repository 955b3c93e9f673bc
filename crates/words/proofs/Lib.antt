pub mod Bytes
pub mod Laying
pub mod Reading
