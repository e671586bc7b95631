pub mod Contacts
pub mod Counted
pub mod Errors
pub mod Letters
pub mod Members
pub mod Ports
pub mod Words
