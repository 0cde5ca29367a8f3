pub mod Message
pub mod Parts
pub mod Crc
pub mod Register
pub use Rattle.two_wire.specs.Bits
pub use Rattle.two_wire.specs.Polynomial
