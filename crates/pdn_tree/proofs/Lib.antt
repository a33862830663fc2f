pub mod ColumnLaws
pub mod NodeLaws
pub mod ShapeLaws
