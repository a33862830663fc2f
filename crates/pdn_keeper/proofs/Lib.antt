pub mod RecordLists
pub mod ImportLaws
pub mod BatchLaws
pub mod CompareLaws
pub mod BoundLaws
