mod Assign
mod Digits
mod Names
mod Parts
mod Sources
mod Spelt
