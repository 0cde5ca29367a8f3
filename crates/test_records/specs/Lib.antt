pub mod PartsSet
pub mod StoresSet
pub mod WholeSet
