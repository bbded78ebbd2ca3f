mod Objects
mod Placing
mod Jobs
