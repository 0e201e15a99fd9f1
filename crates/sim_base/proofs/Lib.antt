pub mod Lists
pub mod CheckedSettings
pub mod LoadedBytes
