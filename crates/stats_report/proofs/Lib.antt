pub mod HexLemmas
pub mod ShownText
