-- The laws of the table of archives, which says about messages what these say themselves.
pub mod Alike
pub mod Formed
pub mod MailSame
pub mod Messages
pub mod Numbers
pub mod OldTables
pub mod Terms
pub mod ThreadLinks
pub mod Truth
