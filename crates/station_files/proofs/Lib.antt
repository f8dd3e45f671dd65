mod Begun
mod Feeds
mod Ahead
mod LinesRead
