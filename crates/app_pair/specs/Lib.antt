pub mod Inputs
pub mod Paired
pub mod PairRun
