pub mod Script
pub mod Shapes
