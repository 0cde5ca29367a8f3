pub mod Grammar
pub mod Fault
pub use Rattle.two_wire.specs.Check
