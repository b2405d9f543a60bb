mod Digits
mod Goings
mod Overs
mod Walking
