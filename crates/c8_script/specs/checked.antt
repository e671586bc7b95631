pub mod ScriptWords
