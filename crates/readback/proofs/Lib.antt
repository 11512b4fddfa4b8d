-- The theory of `readback`. First lists of steps, up to their theorem in `StepsBack`; then numbers, lines and whole texts, and what the code
-- knows of them, up to their theorem in `ListingsBack`. `Cases` has listings and lists that compute.
pub mod Cases
pub mod Places
pub mod Recovering
pub mod Comparing
pub mod StepsBack
pub mod Numerals
pub mod NumberLines
pub mod StepLines
pub mod Texts
pub mod Keeping
pub mod Scanlines
pub mod LineCuts
pub mod ListingTests
pub mod ListingsBack
