mod StandingLaws
mod Going
mod Worded
mod Folds
