mod ReplayStates
mod Gathered
