-- Laws of values.
pub mod Cases
pub mod Conversions
pub mod Order
pub mod Changes
