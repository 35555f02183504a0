pub mod Opens
pub mod OwnMoves
pub mod Runs
pub mod Ends
