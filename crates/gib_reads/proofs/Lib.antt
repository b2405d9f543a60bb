-- What was read, as facts; things read one after another, whole and as far as a loop has come.
pub mod Signs
pub mod Tools
pub mod Many
pub mod SoFar
pub mod PartsSoFar
-- One level more; other tokens behind; and all laws of a reader, in one record.
pub mod Past
pub mod Local
pub mod Laws
pub mod Cuts
