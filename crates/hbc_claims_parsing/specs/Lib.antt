pub mod Cases
pub mod Unique
pub mod HandlerRows
pub mod Why
pub mod SectionPairs
pub mod SectionSizes
