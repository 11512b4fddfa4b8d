-- The theory of `plan`: it knows the definitions of specs/ and no code.
pub mod Bounds
pub mod Refusals
pub mod Radix
pub mod Limits
pub mod Admitting
pub mod Digits
pub mod OneRadix
pub mod Chains
pub mod Blocks
pub mod Reproduction
