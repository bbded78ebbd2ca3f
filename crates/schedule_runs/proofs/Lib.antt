mod Hearing
mod Crews
mod Running
mod Within
