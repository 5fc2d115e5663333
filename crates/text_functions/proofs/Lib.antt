mod Digits
mod Finds
