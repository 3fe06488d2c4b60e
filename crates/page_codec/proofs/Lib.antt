mod Prelude
pub mod Fields
pub mod Padding
pub mod Items
pub mod Ordered
pub mod EntryFields
pub mod EntryBytes
pub mod SinkBytes
pub mod RecordPages
pub mod Bodies
pub mod RootBytes
