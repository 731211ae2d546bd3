pub mod Folding
pub mod Words
pub mod Inside
