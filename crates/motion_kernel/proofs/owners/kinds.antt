-- Of which kinds the commands are that changes leave and calls bring.
pub mod Changes
pub mod Tables
