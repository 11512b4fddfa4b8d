-- The proof of demand 3: the state that a list of calls keeps, one turn, whole lists, and the program. Then which plans suit every table, which
-- shapes have none, how many calls of a list are answered New, demand 3 of lists of filings and withdrawals (from `Refiling` on), what settling
-- answers after a list of either kind, and the tables of cases.
pub mod Turns
pub mod Lists
pub mod Programs
pub mod Demand3
pub mod Tables
pub mod General
pub mod Hopeless
pub mod News
pub mod Refiling
pub mod Keeping
pub mod Records
pub mod Demand3With
pub mod Settlement
pub mod Cases
pub mod GeneralCases
pub mod WithdrawalCases
