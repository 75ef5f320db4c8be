-- What is proved of the code of a formula line and of the module that holds it.
pub mod Coded
pub mod Held
pub mod Compiling
