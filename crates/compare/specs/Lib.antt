pub mod Comparison
pub mod Comparisons
pub mod Order
pub mod OrderCode
pub mod Ordered
