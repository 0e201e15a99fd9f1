pub mod Facts
mod Fits
mod Made
mod Plans
mod Hits
pub mod OneLineCaches
pub mod OneLineDeliver
pub mod OneLineHappens
pub mod OneLineHomes
pub mod OneLineParts
pub mod OneLinePlain
pub mod OneLineSpeaks
pub mod OneLineStep
pub mod OneLineWords
