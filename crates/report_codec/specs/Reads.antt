-- What reading a line answers.
use Rattle.std.specs.Prelude.{◌≡◌, Result, Ok, Err}
use Rattle.farm_lines.specs.declared.request.Request.{Request}
use Rattle.farm_lines.specs.declared.request.RequestFault.{RequestFault}
use Rattle.farm_lines.specs.declared.request.RequestFault.TheVariants.{BadLine, BadRange, BadAmount, NoMemory}
use Rattle.farm_lines.specs.Request.{RequestError}
use Rattle.farm_lines.specs.Request as error
use Rattle.farm_lines.specs.Asked.{IsFormedAsked, asked_of}

-- the call's fault is the one that was to be read, unless memory ran out
abbrev pub Fails : RequestFault → Result Request RequestError → Type 0
Fails (BadLine field) read = read ≡ Err (error.BadLine field)
Fails (BadRange layer fault) read = read ≡ Err (error.BadRange layer fault)
Fails (BadAmount field) read = read ≡ Err (error.BadAmount field)
Fails NoMemory read = Unit {0}

-- the call's answer is what was to be read, unless memory ran out
abbrev pub IsRequest : Result Request RequestFault → Result Request RequestError → Type 0
IsRequest (Ok asked) read = read ≡ Ok asked
IsRequest (Err fault) read = Fails fault read

-- what is asked is within the forms and limits of its act
abbrev pub AsksWithin : Request → Type 0
AsksWithin what = IsFormedAsked (asked_of what)
