mod Correcting
mod Voting
