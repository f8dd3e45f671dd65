pub mod PatienceState
