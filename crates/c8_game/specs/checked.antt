pub mod Draft
pub mod FaultLaws
pub mod LineLaws
pub mod Places
