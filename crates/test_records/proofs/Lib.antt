mod PartsSet
mod StoresSet
mod WholeSet
