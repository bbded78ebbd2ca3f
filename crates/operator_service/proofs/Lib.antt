mod Attends
mod ClosedServers
mod Handled
mod Serves
mod Shown
mod Stepped
mod Stepping
