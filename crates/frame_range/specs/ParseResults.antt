-- What parsing answers.
use Rattle.std.specs.Prelude.{◌≡◌, Result, Ok, Err}
use Rattle.frame_range.specs.declared.fault.RangeFault.{RangeFault}
use Rattle.frame_range.specs.declared.fault.RangeFault.TheVariants.{Syntax, OutOfRange, ZeroStep, WrongWay, Empty, TooMany, NoMemory}

-- the fault is the one of the definition, unless memory ran out
abbrev pub Fails : {X : Type 0} → RangeFault → Result X RangeFault → Type 0
Fails NoMemory known = Unit {0}
Fails (Syntax n) known = known ≡ Err (Syntax n)
Fails (OutOfRange n) known = known ≡ Err (OutOfRange n)
Fails (ZeroStep n) known = known ≡ Err (ZeroStep n)
Fails (WrongWay n) known = known ≡ Err (WrongWay n)
Fails (Empty n) known = known ≡ Err (Empty n)
Fails (TooMany n) known = known ≡ Err (TooMany n)

-- the answer, seen by view, is the one of the definition, unless memory ran out
abbrev pub Gives : {Y X : Type 0} → (Y → X) → Result Y RangeFault → Result X RangeFault → Type 0
Gives view (Ok y) known = known ≡ Ok (view y)
Gives view (Err e) known = Fails e known
