-- That an escaped text is plain.
pub mod EscapedPlain
