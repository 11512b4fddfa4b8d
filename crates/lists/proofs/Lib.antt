-- The laws of `lists`, one module for each definition (`Placing` has those of `placed`), and one for loops that write a list in place.
pub mod Sums
pub mod Maxima
pub mod Tabs
pub mod Joins
pub mod Tests
pub mod Sameness
pub mod Parts
pub mod Placing
pub mod Overwrite
