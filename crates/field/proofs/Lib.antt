-- The theory of `field`: it knows the definitions of specs/ and no code.
pub mod Modular
pub mod Ranges
pub mod ZeroBytes
pub mod Raising
pub mod Powers
pub mod Reduction
pub mod PrimeTable
pub mod Inverses
pub mod Products
