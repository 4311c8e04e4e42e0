pub mod StringText
