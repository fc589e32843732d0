mod Answered
mod Served
mod ServedLines
