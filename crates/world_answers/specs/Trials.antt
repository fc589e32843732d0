-- What a line comes to on a copy of a farm.
use Rattle.std.specs.Prelude.{ℕ, ◌≡◌, ◌≢◌, ◌+◌, Bool, true, false, List, [], ◌∷◌, ◌++◌, take, Option, None, Some, Result, Ok, Err, IfSome}
use Rattle.farm_types.specs.declared.entry.Entry.{Entry}
use Rattle.farm_types.specs.Farm.{Farm}
use Rattle.farm_types.specs.Run.{run_of}
use Rattle.farm_rows.specs.Rows.{rows_of}
use Rattle.farm_lines.specs.declared.reply.Reply.{Reply}
use Rattle.farm_lines.specs.declared.reply.Reply.TheVariants as reply
use Rattle.farm_lines.specs.Reply.{reply_text}
use Rattle.farm_lines.specs.Transcript.{Answered, Mark, Plain, answer_to}
use Rattle.world_answers.specs.declared.trial.Further.{Further}
use Rattle.world_answers.specs.declared.trial.Trial.{Trial}
use Rattle.world_answers.specs.declared.trial.TrialFault.{TrialFault}
use Rattle.world_answers.specs.declared.trial.TrialFault.TheVariants as fault
use Rattle.world_law.specs.Ends.{ends_along}
use Rattle.world_law.specs.Lines.{HasCommit, mark_of}

-- the text is that of the line, which doesn't tell that memory ran out
pub record IsTextOf (line shown : List ℕ) : Type 0 where
  pub calm : line ≡ reply_text reply.NoMemory ++ 10 ∷ [] → ⊥
  pub text : (told : Reply) → line ≡ reply_text told ++ 10 ∷ [] → shown ≡ reply_text told

-- some row is another one, or none is
abbrev pub AreStored : Bool → Farm → Farm → Type 0
AreStored true f g = rows_of f ≢ rows_of g
AreStored false f g = rows_of f ≡ rows_of g

-- what the refused commit would have made: the farm with the entries up to it
pub record IsFurther (f : Farm) (all : List Entry) (refused : ℕ) (made : Further) : Type 0 where
  pub farm : made.farm ≡ run_of f (take (refused + 1) all)
  pub ends : made.ends ≡ ends_along f (take (refused + 1) all)

abbrev pub HasFurther : Farm → List Entry → Option ℕ → Option Further → Type 0
HasFurther f all None None = Unit {0}
HasFurther f all (Some refused) (Some made) = IsFurther f all refused made
HasFurther f all refused made = ⊥

-- the line is answered by these marks: by none where the store refuses nothing, and by the store's where it refuses that commit
pub record IsTrial (f : Farm) (answers : Mark → Answered) (refused : Option ℕ) (t : Trial) : Type 0 where
  pub may : IfSome refused (HasCommit f (answers Plain).entries)
  pub farm : t.farm ≡ run_of f (answers (mark_of refused)).entries
  pub entries : t.entries ≡ (answers (mark_of refused)).entries
  pub ends : t.ends ≡ ends_along f (answers (mark_of refused)).entries
  pub stored : AreStored t.stored f (run_of f (answers (mark_of refused)).entries)
  pub reply : t.reply ≡ reply_text (answers (mark_of refused)).reply
  pub further : HasFurther f (answers Plain).entries refused t.further

-- it is answered, or it has no such commit, or memory ran out
abbrev pub Tries : Farm → (Mark → Answered) → Option ℕ → Result Trial TrialFault → Type 0
Tries f answers refused (Ok t) = IsTrial f answers refused t
Tries f answers refused (Err fault.NoSuch) = IfSome refused (HasCommit f (answers Plain).entries) → ⊥
Tries f answers refused (Err fault.NoMemory) = Unit {0}

abbrev pub TriesLine : Farm → List ℕ → ℕ → Option ℕ → Result Trial TrialFault → Type 0
TriesLine f line moment refused result = Tries f (answer_to f line moment) refused result
