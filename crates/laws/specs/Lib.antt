-- How many filings can be New.
pub mod Rank
