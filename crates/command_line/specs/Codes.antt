-- The numbers by which programs tell the system how they ended.
use Rattle.std.specs.Prelude.{ℕ}
use Rattle.command_line.specs.declared.status.Status.{Status}
use Rattle.command_line.specs.declared.status.Status.TheVariants as exit

abbrev pub code_of : Status → ℕ
code_of exit.Done = 0
code_of exit.Refused = 1
code_of exit.WrongWords = 2
code_of exit.StoreFailed = 3
code_of exit.ReadFailed = 4
code_of exit.WriteFailed = 5
code_of exit.BadStore = 6
code_of exit.NoMemory = 7
code_of exit.Spent = 8
code_of exit.NoConnection = 9
code_of exit.InputEnded = 10
code_of exit.NoReply = 11
code_of exit.UnreadableSpec = 13
