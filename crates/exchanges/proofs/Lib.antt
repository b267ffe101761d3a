pub mod Shapes
pub mod Turns
pub mod Joints
pub mod Records
pub mod Activations
pub mod Ends
pub mod Whole
