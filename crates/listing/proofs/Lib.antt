-- The theory of `listing`: it knows the definitions of specs/ and no code.
pub mod NormLimit
pub mod Norms
pub mod Cases
pub mod Digits
pub mod Puts
pub mod Prints
pub mod Lines
pub mod Rooms
