-- Laws of lists of pairs and of records; lists as the loops read them and file them; and what the calls answer and leave.
pub mod EntryLists
pub mod Places
pub mod Rests
pub mod Orders
pub mod Soundness
pub mod Endings
pub mod Unpacked
pub mod Told
