pub mod Places
pub mod Known
pub mod Firsts
pub mod Lines
