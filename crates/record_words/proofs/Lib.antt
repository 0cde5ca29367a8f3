pub mod Apart
pub mod NoPassword
pub mod PrintableLines
pub mod PrintableWords
pub mod ReadBack
pub mod Trimming
