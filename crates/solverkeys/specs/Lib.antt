pub mod GraphKeys
pub mod Keyed
pub mod Keys
pub mod Shapes
