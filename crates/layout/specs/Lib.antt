-- Document 01 as definitions, in the document's order. This is what must be believed; all else is checked. Storage is the setting of condition 3.
pub mod Recording
pub mod Reading
pub mod Opening
pub mod Items
pub mod Browser
pub mod Cursor
pub mod Recorder
pub mod Repair
pub mod Saving
pub mod OldSheets
pub mod Storage
