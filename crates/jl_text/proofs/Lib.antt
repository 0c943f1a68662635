pub mod EncodingLemmas
mod AsciiLemmas
pub mod EndsLemmas
mod Examples
pub mod HeldLemmas
pub mod PeriodLemmas
pub mod PlacesLemmas
pub mod SearchLemmas
pub mod UnitLemmas
