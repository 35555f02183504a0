-- What was written is read back: fields, items, calls, entries, the whole trace.
pub mod RecordLaws
pub mod EntryLaws
pub mod Plain
pub mod PartsBack
pub mod NamesBack
pub mod FieldsBack
pub mod ItemsBack
pub mod CallsBack
pub mod Leads
pub mod MachineBack
pub mod EntriesBack
pub mod TraceBack
