-- The definitions of `store`. What a reader must believe: elimination, which filing is a contradiction, the calls with their causes, which
-- outputs are settled, and what the rows of a store span.
pub mod Elimination
pub mod Filings
pub mod Calls
pub mod Settled
pub mod Span
-- What only serves the code: the contracts of the functions below the calls. The stages of a filing, with a lemma for a ghost field, and the
-- test of reduced form in one reading of the store.
pub mod Stages
pub mod Singular
pub mod Reading
