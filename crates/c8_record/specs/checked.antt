pub mod BodyLaws
pub mod JournalLaws
pub mod LeaverLaws
pub mod RefusalLaws
pub mod Taken
pub mod CheckLaws
pub mod OpenedLaws
pub mod PieceLaws
