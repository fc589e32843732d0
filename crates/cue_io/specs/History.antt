-- All calls of a reader together: the lines given are those of the bytes taken, cut at their newlines.
use Rattle.std.specs.Prelude.{◌≡◌, ℕ, ◌+◌, ◌<◌, ◌≤◌, Bool, true, false, List, [], ◌∷◌, ◌++◌, length, Option, Result, Ok, Err, ◌⊎◌}
use Rattle.std.proofs.Common.{refl, sym, ap, ◌∙◌, subst, inl, inr, append_assoc, append-nil, length-append, true≢false}
use Rattle.cue_io.specs.declared.line.LineFault.{LineFault}
use Rattle.cue_io.specs.declared.line.LineFault.TheVariants.{Read, Spent}
use Rattle.cue_io.specs.Input.{Takes, IsAtEnd, IsAtEnd-kept}
use Rattle.cue_io.specs.Lines.{has_newline, lines_of, joined, AreLines, joined-append, AreLines-append, lines_of-last, lines_of-joined}
use Rattle.cue_io.specs.Reader.{Held, Given, Whole, Long, AtEnd, Goes, IsPending, new_reader, IsNext, IsOver, IsUncut, Leaves, Moves}
use Rattle.cue_io.specs.declared.limits.TheConstants.{BYTE_LIMIT}

-- the lines are whole ones, the first of the bytes taken: those are their bytes, with their newlines, and then the rest
pub record AreWholeLines (taken : List ℕ) (lines : List (List ℕ)) (rest : List ℕ) : Type 0 where
  pub cut : taken ≡ joined lines ++ rest
  pub in_lines : AreLines lines

-- the lines are all those of the bytes taken
pub record IsDone (taken : List ℕ) (lines : List (List ℕ)) (pending : List ℕ) : Type 0 where
  pub cut : lines_of taken ≡ lines
  pub none_left : pending ≡ []

-- the lines given so far, by whether the source has ended
abbrev pub IsCut : Bool → List ℕ → List (List ℕ) → List ℕ → Type 0
IsCut false taken lines pending = AreWholeLines taken lines pending
IsCut true taken lines pending = IsDone taken lines pending

-- a reader that took these bytes since it was made has given these lines, the ones that it passed over among them
pub record HasGiven (limit : ℕ) (taken : List ℕ) (lines : List (List ℕ)) (reader : Held) (left : Option (List ℕ)) : Type 0 where
  pub limit_is : reader.limit ≡ limit
  pub taken_is : reader.taken ≡ length taken
  pub pending : List ℕ
  pub is_pending : IsPending reader pending
  pub is_cut : IsCut reader.ended taken lines pending
  pub at_end : reader.ended ≡ true → IsAtEnd left

-- the bytes taken are those of the lines, with their newlines, and then some with no newline
pub record IsUnfinished (taken : List ℕ) (lines : List (List ℕ)) : Type 0 where
  pub rest : List ℕ
  pub cut : taken ≡ joined lines ++ rest
  pub in_line : has_newline rest ≡ false
  pub in_lines : AreLines lines

-- the lines are all those of the bytes taken, and the source has none left
pub record AreAllLines (taken : List ℕ) (lines : List (List ℕ)) (left : Option (List ℕ)) : Type 0 where
  pub cut : lines_of taken ≡ lines
  pub none_left : IsAtEnd left

-- The lines are the first of the bytes taken: whole ones, each with its newline; or all that there were, a last one without a newline among them, where the
-- source is at its end.
abbrev pub AreFirstLines : List ℕ → List (List ℕ) → Option (List ℕ) → Type 0
AreFirstLines taken lines left = ((rest : List ℕ) × AreWholeLines taken lines rest) ⊎ AreAllLines taken lines left

-- where a reader stands after an answer, of all bytes taken and the lines given before
abbrev pub Continues : ℕ → List ℕ → List (List ℕ) → Result Given LineFault → Held → Option (List ℕ) → Type 0
Continues limit taken lines (Ok (Whole line)) reader left = (length line ≤ limit) × HasGiven limit taken (lines ++ line ∷ []) reader left
Continues limit taken lines (Ok Long) reader left =
    (line : List ℕ) × (limit < length line) × HasGiven limit taken (lines ++ line ∷ []) reader left
Continues limit taken lines (Ok AtEnd) reader left = (lines_of taken ≡ lines) × IsAtEnd left × HasGiven limit taken lines reader left
Continues limit taken lines (Err Read) reader left = IsUnfinished taken lines × (length taken < BYTE_LIMIT) × HasGiven limit taken lines reader left
Continues limit taken lines (Err Spent) reader left = IsUnfinished taken lines × (length taken ≡ BYTE_LIMIT) × HasGiven limit taken lines reader left

-- a reader that was just made has given nothing
pub HasGiven-new : (limit : ℕ) (left : Option (List ℕ)) → HasGiven limit [] [] (new_reader limit) left
HasGiven-new limit left = record {
  limit_is = refl;
  taken_is = refl;
  pending = [];
  is_pending = record { passed = []; are_passed = refl; pending_is = refl };
  is_cut = record { cut = refl; in_lines = tt };
  at_end = λ ended. absurd (true≢false (sym ended));
}

-- what a reader took in all
taken-append : {limit : ℕ} {taken : List ℕ} {lines : List (List ℕ)} {old : Held} {left : Option (List ℕ)} {took : List ℕ}
    {answer : Result Given LineFault} {new : Held} → HasGiven limit taken lines old left → Goes old took answer new
    → new.taken ≡ length (taken ++ took)
taken-append {taken = taken} {took = took} so_far goes =
    goes.taken_is ∙ ap (λ count. count + length took) so_far.taken_is ∙ sym (length-append taken took)

-- the bytes after one more line that a newline ends
going-append : (taken pending took line rest : List ℕ) (lines : List (List ℕ)) → AreWholeLines taken lines pending
    → pending ++ took ≡ line ++ 10 ∷ rest → has_newline line ≡ false → AreWholeLines (taken ++ took) (lines ++ line ∷ []) rest
going-append taken pending took line rest lines going cut in_line = record {
  cut = ap (λ bytes. bytes ++ took) going.cut
      ∙ append_assoc (joined lines) pending took
      ∙ ap (λ bytes. joined lines ++ bytes) (cut ∙ sym (append_assoc line (10 ∷ []) rest))
      ∙ sym (append_assoc (joined lines) (line ++ 10 ∷ []) rest)
      ∙ ap (λ bytes. bytes ++ rest) (sym (joined-append lines line));
  in_lines = AreLines-append lines line going.in_lines in_line;
}

-- the bytes after a call that gave no line
going-more : (taken pending took : List ℕ) (lines : List (List ℕ)) → AreWholeLines taken lines pending
    → taken ++ took ≡ joined lines ++ (pending ++ took)
going-more taken pending took lines going =
    ap (λ bytes. bytes ++ took) going.cut ∙ append_assoc (joined lines) pending took

-- the lines after one more line that the end of the source ends
done-append : (taken pending took line : List ℕ) (lines : List (List ℕ)) → AreWholeLines taken lines pending
    → pending ++ took ≡ line → has_newline line ≡ false → 0 < length line → lines_of (taken ++ took) ≡ lines ++ line ∷ []
done-append taken pending took line lines going cut in_line some =
    ap lines_of (going-more taken pending took lines going ∙ ap (λ bytes. joined lines ++ bytes) cut)
    ∙ lines_of-joined lines line going.in_lines
    ∙ ap (λ later. lines ++ later) (lines_of-last line in_line some)

-- the lines where no byte is left after them
done-none : (taken pending took : List ℕ) (lines : List (List ℕ)) → AreWholeLines taken lines pending → pending ++ took ≡ []
    → lines_of (taken ++ took) ≡ lines
done-none taken pending took lines going cut =
    ap lines_of (going-more taken pending took lines going ∙ ap (λ bytes. joined lines ++ bytes) cut)
    ∙ lines_of-joined lines [] going.in_lines
    ∙ append-nil lines

-- a line comes next, and the reader stands after it
given-next : {limit : ℕ} {taken : List ℕ} {lines : List (List ℕ)} {old : Held} {left : Option (List ℕ)} {took : List ℕ}
    {answer : Result Given LineFault} {new : Held} {left' : Option (List ℕ)} (line rest : List ℕ)
    (so_far : HasGiven limit taken lines old left) → Goes old took answer new → old.ended ≡ false
    → AreWholeLines taken lines so_far.pending → (new.ended ≡ true → IsAtEnd left')
    → IsPending new rest → IsNext (so_far.pending ++ took) line rest new
    → HasGiven limit (taken ++ took) (lines ++ line ∷ []) new left'
given-next {limit} {taken} {lines} {old} {left} {took} {answer} {new} {left'} line rest so_far goes unended going end pending (inl next) = record {
  limit_is = goes.limit_is ∙ so_far.limit_is;
  taken_is = taken-append so_far goes;
  pending = rest;
  is_pending = pending;
  is_cut = let Cut : Bool → Type 0 = λ ended. IsCut ended (taken ++ took) (lines ++ line ∷ []) rest in
      subst Cut (sym next.going) (going-append taken so_far.pending took line rest lines going next.cut next.in_line);
  at_end = end;
}
given-next {limit} {taken} {lines} {old} {left} {took} {answer} {new} {left'} line rest so_far goes unended going end pending (inr next) = record {
  limit_is = goes.limit_is ∙ so_far.limit_is;
  taken_is = taken-append so_far goes;
  pending = rest;
  is_pending = pending;
  is_cut = let Cut : Bool → Type 0 = λ ended. IsCut ended (taken ++ took) (lines ++ line ∷ []) rest in
      subst Cut (sym next.ended) (record {
        cut = done-append taken so_far.pending took line lines going next.cut next.in_line next.some;
        none_left = next.none_left;
      });
  at_end = end;
}

-- no line comes next, and the reader stands where it stood, with more pending
uncut-next : {limit : ℕ} {taken : List ℕ} {lines : List (List ℕ)} {old : Held} {left : Option (List ℕ)} {took : List ℕ}
    {answer : Result Given LineFault} {new : Held} {left' : Option (List ℕ)} (rest : List ℕ)
    (so_far : HasGiven limit taken lines old left) → Goes old took answer new
    → AreWholeLines taken lines so_far.pending → (new.ended ≡ true → IsAtEnd left')
    → IsPending new rest → IsUncut (so_far.pending ++ took) rest new
    → HasGiven limit (taken ++ took) lines new left'
uncut-next {limit} {taken} {lines} {old} {left} {took} {answer} {new} {left'} rest so_far goes going end pending uncut = record {
  limit_is = goes.limit_is ∙ so_far.limit_is;
  taken_is = taken-append so_far goes;
  pending = rest;
  is_pending = pending;
  is_cut = let Cut : Bool → Type 0 = λ ended. IsCut ended (taken ++ took) lines rest in
      subst Cut (sym uncut.going) (record {
        cut = going-more taken so_far.pending took lines going ∙ ap (λ bytes. joined lines ++ bytes) (sym uncut.kept);
        in_lines = going.in_lines;
      });
  at_end = end;
}

-- the bytes of an unfinished line come last
unfinished-next : (taken pending took rest : List ℕ) (lines : List (List ℕ)) (new : Held) → AreWholeLines taken lines pending
    → IsUncut (pending ++ took) rest new → IsUnfinished (taken ++ took) lines
unfinished-next taken pending took rest lines new going uncut = record {
  rest = pending ++ took;
  cut = going-more taken pending took lines going;
  in_line = uncut.in_line;
  in_lines = going.in_lines;
}

-- where no byte is left after the lines, they are all
over-next : {limit : ℕ} {taken : List ℕ} {lines : List (List ℕ)} {old : Held} {left : Option (List ℕ)} {took : List ℕ}
    {answer : Result Given LineFault} {new : Held} {left' : Option (List ℕ)} (rest : List ℕ)
    (so_far : HasGiven limit taken lines old left) → Goes old took answer new
    → AreWholeLines taken lines so_far.pending → (new.ended ≡ true → IsAtEnd left')
    → IsPending new rest → IsOver (so_far.pending ++ took) rest new
    → (lines_of (taken ++ took) ≡ lines) × IsAtEnd left' × HasGiven limit (taken ++ took) lines new left'
over-next {limit} {taken} {lines} {old} {left} {took} {answer} {new} {left'} rest so_far goes going end pending over =
    let all : lines_of (taken ++ took) ≡ lines = done-none taken so_far.pending took lines going over.none in
    let Cut : Bool → Type 0 = λ ended. IsCut ended (taken ++ took) lines rest in (
      all,
      end over.ended,
      record {
        limit_is = goes.limit_is ∙ so_far.limit_is;
        taken_is = taken-append so_far goes;
        pending = rest;
        is_pending = pending;
        is_cut = subst Cut (sym over.ended) (record { cut = all; none_left = over.none_left });
        at_end = end;
      },
    )

-- one more call of a reader whose source hasn't ended
continues-open : (limit : ℕ) (taken : List ℕ) (lines : List (List ℕ)) (old : Held) (left : Option (List ℕ))
    (took : List ℕ) (answer : Result Given LineFault) (new : Held) (left' : Option (List ℕ))
    (so_far : HasGiven limit taken lines old left) → Goes old took answer new → old.ended ≡ false
    → AreWholeLines taken lines so_far.pending → (new.ended ≡ true → IsAtEnd left')
    → Leaves old so_far.pending took answer new → Continues limit (taken ++ took) lines answer new left'
continues-open limit taken lines old left took (Ok (Whole line)) new left' so_far goes unended going end leaves = (
  subst (λ (most : ℕ). length line ≤ most) so_far.limit_is leaves.cuts.1,
  given-next line leaves.rest so_far goes unended going end leaves.is_pending leaves.cuts.0,
)
continues-open limit taken lines old left took (Ok Long) new left' so_far goes unended going end leaves = (
  leaves.cuts.0,
  subst (λ (most : ℕ). most < length leaves.cuts.0) so_far.limit_is leaves.cuts.2,
  given-next leaves.cuts.0 leaves.rest so_far goes unended going end leaves.is_pending leaves.cuts.1,
)
continues-open limit taken lines old left took (Ok AtEnd) new left' so_far goes unended going end leaves =
    over-next leaves.rest so_far goes going end leaves.is_pending leaves.cuts
continues-open limit taken lines old left took (Err Read) new left' so_far goes unended going end leaves = (
  unfinished-next taken so_far.pending took leaves.rest lines new going leaves.cuts.0,
  subst (λ (count : ℕ). count < BYTE_LIMIT) (taken-append so_far goes) leaves.cuts.1,
  uncut-next leaves.rest so_far goes going end leaves.is_pending leaves.cuts.0,
)
continues-open limit taken lines old left took (Err Spent) new left' so_far goes unended going end leaves = (
  unfinished-next taken so_far.pending took leaves.rest lines new going leaves.cuts.0,
  sym (taken-append so_far goes) ∙ leaves.cuts.1,
  uncut-next leaves.rest so_far goes going end leaves.is_pending leaves.cuts.0,
)

-- one more call after the end of the source
continues-ended : (limit : ℕ) (taken : List ℕ) (lines : List (List ℕ)) (old : Held) (left : Option (List ℕ)) (left' : Option (List ℕ))
    (so_far : HasGiven limit taken lines old left) → IsDone taken lines so_far.pending → Takes left left' [] → old.ended ≡ true
    → Continues limit (taken ++ []) lines (Ok AtEnd) old left'
continues-ended limit taken lines old left left' so_far done takes ended =
    let same : taken ++ [] ≡ taken = append-nil taken in
    let at_end : IsAtEnd left' = IsAtEnd-kept left left' takes (so_far.at_end ended) in (
      ap lines_of same ∙ done.cut,
      at_end,
      record {
        limit_is = so_far.limit_is;
        taken_is = so_far.taken_is ∙ sym (ap length same);
        pending = so_far.pending;
        is_pending = so_far.is_pending;
        is_cut = subst (λ (bytes : List ℕ). IsCut old.ended bytes lines so_far.pending) (sym same) so_far.is_cut;
        at_end = λ is. at_end;
      },
    )

-- one more call, by whether the source has ended
continues-by : (ended : Bool) (limit : ℕ) (taken : List ℕ) (lines : List (List ℕ)) (old : Held) (left : Option (List ℕ))
    (took : List ℕ) (answer : Result Given LineFault) (new : Held) (left' : Option (List ℕ))
    → old.ended ≡ ended → HasGiven limit taken lines old left → Takes left left' took → Goes old took answer new
    → (old.ended ≡ false → new.ended ≡ true → IsAtEnd left')
    → Continues limit (taken ++ took) lines answer new left'
continues-by false limit taken lines old left took answer new left' is so_far takes goes end =
    let Cut : Bool → Type 0 = λ ended. IsCut ended taken lines so_far.pending in
    continues-open limit taken lines old left took answer new left' so_far goes is (subst Cut is so_far.is_cut) (end is)
    (goes.leaves so_far.pending so_far.is_pending)
continues-by true limit taken lines old left took answer new left' is so_far takes goes end =
    let stays = goes.at_end is in
    let Cut : Bool → Type 0 = λ ended. IsCut ended taken lines so_far.pending in
    let Took : List ℕ → Type 0 = λ bytes. Takes left left' bytes in
    let at_old : Continues limit (taken ++ []) lines (Ok AtEnd) old left' =
    continues-ended limit taken lines old left left' so_far (subst Cut is so_far.is_cut) (subst Took stays.took_none takes) is in
    let at_took : Continues limit (taken ++ took) lines (Ok AtEnd) old left' =
    subst (λ (bytes : List ℕ). Continues limit (taken ++ bytes) lines (Ok AtEnd) old left') (sym stays.took_none) at_old in
    let at_new : Continues limit (taken ++ took) lines (Ok AtEnd) new left' =
    subst (λ (reader : Held). Continues limit (taken ++ took) lines (Ok AtEnd) reader left') (sym stays.same) at_took in
    subst (λ (given : Result Given LineFault). Continues limit (taken ++ took) lines given new left') (sym stays.answer_is) at_new

-- one more call
pub HasGiven-next : (limit : ℕ) (taken : List ℕ) (lines : List (List ℕ)) (old : Held) (left : Option (List ℕ))
    (answer : Result Given LineFault) (new : Held) (left' : Option (List ℕ))
    → HasGiven limit taken lines old left → (moves : Moves left left' old answer new)
    → Continues limit (taken ++ moves.took) lines answer new left'
HasGiven-next limit taken lines old left answer new left' so_far moves =
    continues-by old.ended limit taken lines old left moves.took answer new left' refl so_far moves.takes moves.goes moves.end

-- after a fault the lines given are the whole ones of the bytes taken
pub Continues-fault : (fault : LineFault) (limit : ℕ) (taken : List ℕ) (lines : List (List ℕ)) (reader : Held) (left : Option (List ℕ))
    → Continues limit taken lines (Err fault) reader left → IsUnfinished taken lines
Continues-fault Read limit taken lines reader left continues = continues.0
Continues-fault Spent limit taken lines reader left continues = continues.0

first-by : (ended : Bool) (taken : List ℕ) (lines : List (List ℕ)) (pending : List ℕ) (left : Option (List ℕ)) → IsCut ended taken lines pending
    → (ended ≡ true → IsAtEnd left) → AreFirstLines taken lines left
first-by false taken lines pending left cut end = inl (pending, cut)
first-by true taken lines pending left cut end = inr (record { cut = cut.cut; none_left = end refl })

-- the lines given are the first of the bytes taken
pub HasGiven-first : (limit : ℕ) (taken : List ℕ) (lines : List (List ℕ)) (reader : Held) (left : Option (List ℕ))
    → HasGiven limit taken lines reader left → AreFirstLines taken lines left
HasGiven-first limit taken lines reader left so_far =
    first-by reader.ended taken lines so_far.pending left so_far.is_cut so_far.at_end
