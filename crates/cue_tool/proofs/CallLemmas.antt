-- What came of one line that was awaited, by what the reader of lines gave.
use Rattle.std.proofs.Common.{◌≡◌, ℕ, ◌<◌, true, false, List, [], length, take, drop, inl, inr, refl, sym, ap, subst, Option, Result, Ok, Err, arith, length-drop, take-append-drop}
use Rattle.command_line.specs.declared.status.Status.{Status}
use Rattle.command_line.specs.declared.status.Status.TheVariants as exit
use Rattle.cue_io.specs.declared.line.Line.{Line}
use Rattle.cue_io.specs.declared.line.LineFault.{LineFault}
use Rattle.cue_io.specs.declared.line.LineFault.TheVariants as line_fault
use Rattle.cue_io.specs.Input.{IsAtEnd}
use Rattle.cue_io.specs.Reader.{Held, Given, Whole, Long, AtEnd, Goes, Cuts, IsNext, given_by, new_reader}
use Rattle.cue_io.specs.Lines.{has_newline}
use Rattle.farm_lines.specs.ReplyLines.{reply_of}
use Rattle.farm_lines.specs.declared.limits.TheConstants.{REPLY_LIMIT}
use Rattle.cue_tool.specs.Answers.{read_shown}
use Rattle.cue_tool.specs.Calls.{Answers, Comes, IsCut, IsFirst, OrRanOut}

-- a front of the text was written
pub cut_part : (text : List ℕ) (count : ℕ) → count < length text → IsCut text (take count text)
cut_part text count short = (drop count text, omega (arith, length-drop count text), take-append-drop count text)

-- the bytes taken by a new reader are cut by its answer
cuts_of : (old new : Held) (took : List ℕ) (answer : Result Given LineFault) → old ≡ new_reader REPLY_LIMIT → Goes old took answer new
    → (rest : List ℕ) × Cuts REPLY_LIMIT took answer rest new
cuts_of old new took answer is goes =
    let leaves = (subst (λ (reader : Held). Goes reader took answer new) is goes).leaves [] (record { passed = []; are_passed = refl; pending_is = refl }) in
    (leaves.rest, leaves.cuts)

first_of : (took line rest : List ℕ) (new : Held) (left : Option (List ℕ)) → IsNext took line rest new → (new.ended ≡ true → IsAtEnd left) → IsFirst took line left
first_of took line rest new left (inl next) at_end = inl (rest, record { cut = next.cut; in_line = next.in_line })
first_of took line rest new left (inr last) at_end = inr (record { all = last.cut; in_line = last.in_line; some = last.some; at_end = at_end last.ended })

-- what the reader says is at the end once it has ended
ends_at : (old new : Held) (left : Option (List ℕ)) → old ≡ new_reader REPLY_LIMIT → (old.ended ≡ false → new.ended ≡ true → IsAtEnd left) → new.ended ≡ true → IsAtEnd left
ends_at old new left is at_end ended = at_end (subst (λ (reader : Held). reader.ended ≡ false) (sym is) refl) ended

-- a line came that may be a reply
pub line_came : (words : List (List ℕ)) (status : Status) (line took printed : List ℕ) (returned : Result Line LineFault) (old new : Held) (left : Option (List ℕ))
    → old ≡ new_reader REPLY_LIMIT → given_by returned ≡ Ok (Whole line) → Goes old took (given_by returned) new → (old.ended ≡ false → new.ended ≡ true → IsAtEnd left)
    → OrRanOut (Answers (read_shown words line (reply_of line)) status printed) status printed → OrRanOut (Comes words status took printed left) status printed
line_came words status line took printed returned old new left is whole goes at_end (inr ran_out) = inr ran_out
line_came words status line took printed returned old new left is whole goes at_end (inl answers) =
    let cuts = cuts_of old new took (Ok (Whole line)) is (subst (λ (answer : Result Given LineFault). Goes old took answer new) whole goes) in
    inl (inl (record { line = line; first = first_of took line cuts.0 new left cuts.1.0 (ends_at old new left is at_end); within = cuts.1.1; answers = answers }))

-- a line came that is too long
pub long_came : (words : List (List ℕ)) (took : List ℕ) (returned : Result Line LineFault) (old new : Held) (left : Option (List ℕ))
    → old ≡ new_reader REPLY_LIMIT → given_by returned ≡ Ok Long → Goes old took (given_by returned) new → (old.ended ≡ false → new.ended ≡ true → IsAtEnd left)
    → OrRanOut (Comes words exit.NoReply took [] left) exit.NoReply []
long_came words took returned old new left is long goes at_end =
    let cuts = cuts_of old new took (Ok Long) is (subst (λ (answer : Result Given LineFault). Goes old took answer new) long goes) in
    inl (inr (inl (record { line = cuts.1.0; first = first_of took cuts.1.0 cuts.0 new left cuts.1.1 (ends_at old new left is at_end); long = cuts.1.2; status_is = refl; none_printed = refl })))

-- the input ended
pub none_came : (words : List (List ℕ)) (took : List ℕ) (returned : Result Line LineFault) (old new : Held) (left : Option (List ℕ))
    → old ≡ new_reader REPLY_LIMIT → given_by returned ≡ Ok AtEnd → Goes old took (given_by returned) new → (old.ended ≡ false → new.ended ≡ true → IsAtEnd left)
    → OrRanOut (Comes words exit.InputEnded took [] left) exit.InputEnded []
none_came words took returned old new left is ended goes at_end =
    let over = (cuts_of old new took (Ok AtEnd) is (subst (λ (answer : Result Given LineFault). Goes old took answer new) ended goes)).1 in
    inl (inr (inr (record {
      no_line = subst (λ (bytes : List ℕ). has_newline bytes ≡ false) (sym over.none) refl;
      none_printed = refl;
      why = inr (inr (refl, over.none, ends_at old new left is at_end over.ended));
    })))

-- the read failed
pub read_failed : (words : List (List ℕ)) (took : List ℕ) (returned : Result Line LineFault) (old new : Held) (left : Option (List ℕ))
    → old ≡ new_reader REPLY_LIMIT → given_by returned ≡ Err line_fault.Read → Goes old took (given_by returned) new
    → OrRanOut (Comes words exit.ReadFailed took [] left) exit.ReadFailed []
read_failed words took returned old new left is failed goes =
    let gone = subst (λ (answer : Result Given LineFault). Goes old took answer new) failed goes in
    let cuts = (cuts_of old new took (Err line_fault.Read) is gone).1 in
    let none : old.taken ≡ 0 = ap (λ (reader : Held). reader.taken) is in
    inl (inr (inr (record { no_line = cuts.0.in_line; none_printed = refl; why = inl (refl, omega (arith, cuts.1, gone.taken_is, none)) })))

-- the bytes that one call takes are spent
pub bytes_spent : (words : List (List ℕ)) (took : List ℕ) (returned : Result Line LineFault) (old new : Held) (left : Option (List ℕ))
    → old ≡ new_reader REPLY_LIMIT → given_by returned ≡ Err line_fault.Spent → Goes old took (given_by returned) new
    → OrRanOut (Comes words exit.Spent took [] left) exit.Spent []
bytes_spent words took returned old new left is spent goes =
    let gone = subst (λ (answer : Result Given LineFault). Goes old took answer new) spent goes in
    let cuts = (cuts_of old new took (Err line_fault.Spent) is gone).1 in
    let none : old.taken ≡ 0 = ap (λ (reader : Held). reader.taken) is in
    inl (inr (inr (record { no_line = cuts.0.in_line; none_printed = refl; why = inr (inl (refl, omega (arith, cuts.1, gone.taken_is, none))) })))
