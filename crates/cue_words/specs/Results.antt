-- What reading words answers.
use Rattle.std.specs.Prelude.{◌≡◌, Result, Ok, Err}
use Rattle.cue_words.specs.declared.asked.ToolWords.{ToolWords}
use Rattle.cue_words.specs.declared.asked.WordsFault.{WordsFault}
use Rattle.cue_words.specs.declared.asked.WordsFault.TheVariants as fault
use Rattle.cue_words.specs.Parts.{Part, Named, Numbered, OfCores, AllOrAny, On, WordsError, Usage, BadSpec}
use Rattle.cue_words.specs.declared.part.Part.{Part as CodePart}
use Rattle.cue_words.specs.declared.part.Part.TheVariants as part

-- what the call returned, seen by view, is what was asked, or exactly its fault, unless memory ran out
abbrev pub Gives : {X Y : Type 0} → (X → Y) → Result X WordsFault → Result Y WordsError → Type 0
Gives view (Ok x) asked = asked ≡ Ok (view x)
Gives view (Err (fault.Usage at)) asked = asked ≡ Err (Usage at)
Gives view (Err fault.BadSpec) asked = asked ≡ Err BadSpec
Gives view (Err fault.NoMemory) asked = Unit {0}

-- the call's answer is what the words ask, or exactly their fault, unless memory ran out
abbrev pub IsWords : Result ToolWords WordsFault → Result ToolWords WordsError → Type 0
IsWords result asked = Gives (λ words. words) result asked

-- what stands at a place, as the code has it
abbrev pub part_of : CodePart → Part
part_of (part.Named field) = Named field.now
part_of (part.Numbered field) = Numbered field.now
part_of (part.OfCores field) = OfCores field.now
part_of part.AllOrAny = AllOrAny
part_of part.On = On
