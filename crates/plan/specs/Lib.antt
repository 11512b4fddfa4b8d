-- The definitions of `plan`: refusals, a plan's numbers and parts, the row of an entry (01), and Equation 1 (003). They stand on those
-- of `field` and `lists`. All of them are what a reader must believe; of `Lending`, `whole` and `admission_of`
-- serve the code alone.
pub mod Causes
pub mod Numbers
pub mod Parts
pub mod Lending
pub mod Rows
pub mod Equation
