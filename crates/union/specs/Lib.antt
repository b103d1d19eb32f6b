-- What the theorems say, beyond the definitions of rules.
pub mod Said
