pub mod Coming
mod Statuses
mod Queries
mod Serving
mod Repeating
mod Apart
mod Asking
