pub mod Names
pub mod Piece
pub mod Spelling
pub mod Lexed
pub mod Printing
pub mod Entries
pub mod Texts
