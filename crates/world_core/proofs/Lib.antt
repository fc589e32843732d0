pub mod KeptSteps
pub mod AtPlace
pub mod Runs
pub mod Steps
pub mod Named
pub mod Answered
