mod Writing
mod Answering
mod Hearing
mod Parts
mod Ends
mod Progress
