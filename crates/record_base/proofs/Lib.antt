pub mod MaskBits
pub mod Orders
pub mod Names
pub mod Numbers
pub mod Operations
pub mod DataBytes
