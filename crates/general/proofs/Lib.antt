-- The number of filings that can be New, the loop of the test, and what the call answers and leaves.
pub mod Sizes
pub mod Working
pub mod Answers
