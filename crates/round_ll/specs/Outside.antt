-- What the contracts of sources, sinks and the calls over them cite.
pub mod AllBytes
pub mod Causes
pub mod FaultPlan
pub mod MemorySink
pub mod MemorySource
pub mod StdObjects
pub mod Told
