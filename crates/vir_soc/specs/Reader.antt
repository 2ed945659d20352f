-- How a reader goes on from piece to piece, and what it stands for. The format does not stand on this.
-- (The program's promises don't stand on this file.)
pub mod Answers
pub mod Steps
pub mod Given
pub mod Pieces
pub mod Views
pub mod Stands
pub mod UsualLines
