pub mod Variable
pub mod Steps
pub mod Figures
pub mod Numbers
