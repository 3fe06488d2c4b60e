pub mod AcceptedInTurn
pub mod Moves
pub mod Reopening
pub mod Runs
pub mod SessionsInTurn
pub mod StoreCalls
