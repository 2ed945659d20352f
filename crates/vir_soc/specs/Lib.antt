-- the format
pub mod Kinds
pub mod Limits
pub mod Checks
pub mod Lines
pub mod Numbers
pub mod Keys
pub mod LineKinds
pub mod Names
pub mod Content
pub mod Metadata
pub mod Votes
pub mod Soc
pub mod SocText
-- the format's laws
pub mod Accepted
-- how a reader goes on: the format does not stand on this
pub mod Reader
