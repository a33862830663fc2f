mod HeadLaws
mod LineLaws
mod LookLaws
mod OneOutcome
mod OutcomeLaws
mod PathLaws
mod RouteLaws
mod TurnLaws
