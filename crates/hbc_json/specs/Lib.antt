pub mod StringsJson
pub mod Private
