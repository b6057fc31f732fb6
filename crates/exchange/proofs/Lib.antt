pub mod Views
pub mod Awaiting
pub mod Going
pub mod Following
pub mod Saying
