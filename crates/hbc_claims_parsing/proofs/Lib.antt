pub mod Cases
pub mod Unique
pub mod HandlerRows
pub mod Why
pub mod Lists
pub mod SectionPairs
pub mod SectionSizes
