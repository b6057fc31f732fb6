pub mod Rate
pub mod Span
pub mod World
pub mod Exact
pub mod Model
pub mod Known
pub mod Past
