pub mod Below
pub mod Roster
