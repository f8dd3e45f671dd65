pub mod FieldsIn
pub mod FrameLaws
pub mod TextLaws
pub mod RequestLaws
pub mod ReplyLaws
pub mod Messages
