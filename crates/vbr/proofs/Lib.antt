pub mod Fitting
pub mod Laws
pub mod Ways
pub mod Named
pub mod Numbers
pub mod Either
pub mod Figures
