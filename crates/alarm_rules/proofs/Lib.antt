pub mod AlarmLaws
