pub mod ScriptLists
pub mod PackTurns
pub mod ScriptTurns
pub mod ParseTurns
