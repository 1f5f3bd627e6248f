mod Given
mod Entered
mod Refused
mod Stopped
