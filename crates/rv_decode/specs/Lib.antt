-- The definitions of instruction words: fields, the listing, and valid forms.

pub mod Field
pub mod Table
pub mod Valid
