-- The rows that change as jobs finish.
pub mod AddedFrames
pub mod AddedJob
pub mod DoneRows
pub mod GoneRows
pub mod OneMade
pub mod RowOfJob
pub mod Said
pub mod TurnMade
