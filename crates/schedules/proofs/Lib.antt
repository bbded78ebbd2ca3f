mod Endings
mod Lists
mod Spoken
mod OneMore
