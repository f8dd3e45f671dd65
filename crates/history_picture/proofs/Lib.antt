mod Marked
mod Furthest
mod Asking
