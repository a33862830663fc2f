pub mod OneBatch
