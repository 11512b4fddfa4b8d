-- How records move down, and where nothing changes.
pub mod Shifting
pub mod Removals
