pub mod BeginsLaws
pub mod ConfirmedLaws
pub mod FreshLaws
pub mod JournalLaws
pub mod KnownLaws
pub mod OneMore
pub mod StartLaws
