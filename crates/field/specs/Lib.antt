pub mod Word
pub mod Element
pub mod Modulus
pub mod Known
pub mod Ext
pub mod Extension
pub mod inner
pub mod laws
