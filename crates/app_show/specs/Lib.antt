pub mod Backup
pub mod Keys
pub mod Asking
pub mod Reading
pub mod Plans
pub mod Putting
pub mod Show
