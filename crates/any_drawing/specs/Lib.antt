pub mod Heights
pub mod Layers
pub mod Leaves
pub mod Meaning
pub mod Piles
pub mod Trees
pub mod Whole
pub mod PileCodes
