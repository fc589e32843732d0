-- What listing numbers answers.
use Rattle.std.specs.Prelude.{◌<◌, ◌≤◌, ℤ, ◌≡◌, List, length, Result, Ok, Err}
use Rattle.frame_range.specs.declared.listing.ListFault.{ListFault}
use Rattle.frame_range.specs.declared.listing.ListFault.TheVariants.{TooMany, NoMemory}
use Rattle.frame_range.specs.Places.{with_all}
use Rattle.frame_range.specs.declared.limits.TheConstants.{MOST_NUMBERS}

-- why the numbers aren't listed after those that stood there
abbrev pub Refuses : ListFault → List ℤ → List ℤ → Type 0
Refuses TooMany old zs = MOST_NUMBERS < length (with_all old zs)
Refuses NoMemory old zs = Unit {0}

-- the numbers were listed after those that stood there, or there is a reason why not
abbrev pub Lists : {X : Type 0} → List ℤ → List ℤ → Result X ListFault → List ℤ → Type 0
Lists old zs (Ok _) new = (new ≡ with_all old zs) × (length new ≤ MOST_NUMBERS)
Lists old zs (Err e) new = Refuses e old zs
