-- What a block call makes of the machine.
pub mod Leading
pub mod AxesLeft
