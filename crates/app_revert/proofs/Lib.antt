mod Records
mod Eyes
mod Unfits
mod Reverts
mod Lines
