pub mod StandingLaws
pub mod NetworkLaws
