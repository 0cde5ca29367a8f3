mod Out
mod Untold
mod Begun
