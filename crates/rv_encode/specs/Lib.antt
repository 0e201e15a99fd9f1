-- The definitions of the encoder: codes, fields of a word, and the listing of the decoder.

pub use Rattle.rv_decode.specs.Table
pub use Rattle.rv_decode.specs.Valid
pub mod Codes
pub mod Word
