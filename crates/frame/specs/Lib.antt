pub mod Details
pub mod Frames
pub mod Numbers
pub mod Reading
pub mod Writing
pub mod Words
