mod Bits
mod Lanes
mod Twins
mod OneRound
mod Messages
mod Writing
