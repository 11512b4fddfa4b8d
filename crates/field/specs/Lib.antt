-- The definitions of `field`. What a reader must believe: the primes, residues with their inverses and squares, and of `Rows` the sum `dot`
-- and the test `all_below`, which the definitions of the crates above cite.
pub mod Primes
pub mod Residues
-- The rest of `Rows` only serves the code of rows, here and in `store`.
pub mod Rows
