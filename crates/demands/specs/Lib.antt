-- Demand 3 of the brief, as a statement; which plans suit every table; demand 3 of lists of filings and withdrawals; and what settling answers after
-- a list of either kind.
pub mod Demand3
pub mod General
pub mod Withdrawals
pub mod Settlement
