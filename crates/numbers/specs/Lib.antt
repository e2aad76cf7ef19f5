-- Laws on numbers and lists.
pub mod Hint
pub mod Sum
pub mod Filled
pub mod Part
