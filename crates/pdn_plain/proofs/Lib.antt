pub mod CountingLaws
pub mod DistinctLaws
pub mod PlaceLaws
pub mod GroupLaws
pub mod NodeRows
