mod Shown
mod Promised
mod Spots
mod Notes
mod Saves
mod Questions
