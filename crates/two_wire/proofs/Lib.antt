pub mod Bits
pub mod Division
pub mod PacketError
