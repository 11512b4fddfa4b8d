-- Lists of entries with their values, the calls with records, and what the functions inside them compute (`Stages`, which serves the code alone).
pub mod Lists
pub mod Calls
pub mod Stages
