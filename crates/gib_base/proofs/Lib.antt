pub mod Held
mod TextsHeld
mod LongTexts
