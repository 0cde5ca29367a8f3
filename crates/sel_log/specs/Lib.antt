pub mod Clock
pub mod Reservations
pub mod LogRecord
pub mod Log
pub mod Sound
