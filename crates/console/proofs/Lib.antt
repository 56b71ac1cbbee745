pub mod HexTurns
pub mod Rows
