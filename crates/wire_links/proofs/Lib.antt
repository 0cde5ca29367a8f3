pub mod LongScripts
pub mod Counting
pub mod Tracing
