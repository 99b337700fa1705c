pub mod Below
pub mod Drafts
pub mod Policies
pub mod Refusals
pub mod Roles
pub mod Rules
pub mod Sound
