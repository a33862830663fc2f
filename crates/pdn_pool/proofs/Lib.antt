mod DrawSteps
mod PlaceLaws
mod RowLaws
