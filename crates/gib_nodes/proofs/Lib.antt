-- Trees of nodes, where one is put or set.
pub mod Layers
