-- The layout before, the moves between the layouts, and the calls as they were over the old one.
pub mod Moves
-- What only serves the code: the test of reduced form of a store in the layout before, row by row.
pub mod FullRows
