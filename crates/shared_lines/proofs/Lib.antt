mod EntryAnswers
mod HeardAnswers
mod LineAnswers
mod ReportAnswers
mod Worked
