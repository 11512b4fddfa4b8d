-- The theory of `program`: it knows the definitions of specs/ and no code.
pub mod Pieces
pub mod Lists
pub mod Effects
pub mod Demand2
pub mod Shape
pub mod Fronts
pub mod Placement
pub mod Interpreting
pub mod Answers
pub mod Entries
