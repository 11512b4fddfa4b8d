-- The layout before, and that a store moved and back is the same; then the laws of the code's loops.
pub mod FullLayout
pub mod FullChunks
pub mod FullReading
pub mod FullRowTests
pub mod RowMoves
