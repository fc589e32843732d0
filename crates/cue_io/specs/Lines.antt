-- Lists of bytes cut at newlines. A newline is byte 10.
use Rattle.std.specs.Prelude.{◌≡◌, ℕ, ◌<◌, Bool, true, false, ◌||◌, ◌==◌, List, [], ◌∷◌, ◌++◌, length, if◌then◌else◌}
use Rattle.std.specs.List.{list_any}
use Rattle.std.proofs.Common.{refl, sym, ap, ◌∙◌, append_assoc, arith}

-- whether a byte is a newline
abbrev pub is_newline : ℕ → Bool
is_newline b = b == 10

-- whether a newline is among the bytes
abbrev pub has_newline : List ℕ → Bool
has_newline bytes = list_any is_newline bytes

-- the lines with this byte before the first of them
abbrev pub onto_first : ℕ → List (List ℕ) → List (List ℕ)
onto_first b [] = (b ∷ []) ∷ []
onto_first b (line ∷ lines) = (b ∷ line) ∷ lines

-- the lines of some bytes, without their newlines; a last line with no newline counts where it has a byte
abbrev pub lines_of : List ℕ → List (List ℕ)
lines_of [] = []
lines_of (b ∷ bytes) = if is_newline b then [] ∷ lines_of bytes else onto_first b (lines_of bytes)

-- lines one after another, each with a newline at its end
abbrev pub joined : List (List ℕ) → List ℕ
joined [] = []
joined (line ∷ lines) = line ++ 10 ∷ joined lines

-- no line has a newline in it
abbrev pub AreLines : List (List ℕ) → Type 0
AreLines [] = Unit {0}
AreLines (line ∷ lines) = (has_newline line ≡ false) × AreLines lines

-- one more line
pub joined-append : (lines : List (List ℕ)) (line : List ℕ) → joined (lines ++ line ∷ []) ≡ joined lines ++ (line ++ 10 ∷ [])
joined-append [] line = refl
joined-append (first ∷ lines) line =
    ap (λ bytes. first ++ 10 ∷ bytes) (joined-append lines line)
    ∙ sym (append_assoc first (10 ∷ joined lines) (line ++ 10 ∷ []))

-- one more line has no newline in it
pub AreLines-append : (lines : List (List ℕ)) (line : List ℕ) → AreLines lines → has_newline line ≡ false
    → AreLines (lines ++ line ∷ [])
AreLines-append [] line are here = (here, tt)
AreLines-append (first ∷ lines) line are here = (are.0, AreLines-append lines line are.1 here)

or-false-left : (a b : Bool) → (a || b) ≡ false → a ≡ false
or-false-left true b h = h
or-false-left false b h = refl

pub or-false-right : (a b : Bool) → (a || b) ≡ false → b ≡ false
or-false-right true b h = absurd (Prim.cc)
or-false-right false b h = h

-- the first line of bytes in which a newline ends it
pub lines_of-line : (line rest : List ℕ) → has_newline line ≡ false → lines_of (line ++ 10 ∷ rest) ≡ line ∷ lines_of rest
lines_of-line [] rest h = refl
lines_of-line (b ∷ line) rest h =
    rw (or-false-left (is_newline b) (has_newline line) h, lines_of-line line rest (or-false-right (is_newline b) (has_newline line) h)) refl

-- bytes that are a last line
pub lines_of-last : (line : List ℕ) → has_newline line ≡ false → 0 < length line → lines_of line ≡ line ∷ []
lines_of-last [] h some = absurd (omega (arith, some))
lines_of-last (b ∷ []) h some = rw (or-false-left (is_newline b) false h) refl
lines_of-last (b ∷ c ∷ line) h some =
    rw (
      or-false-left (is_newline b) (has_newline (c ∷ line)) h,
      lines_of-last (c ∷ line) (or-false-right (is_newline b) (has_newline (c ∷ line)) h) (omega arith),
    ) refl

-- the lines of lines that were joined
pub lines_of-joined : (lines : List (List ℕ)) (rest : List ℕ) → AreLines lines → lines_of (joined lines ++ rest) ≡ lines ++ lines_of rest
lines_of-joined [] rest are = refl
lines_of-joined (line ∷ lines) rest are =
    ap lines_of (append_assoc line (10 ∷ joined lines) rest)
    ∙ lines_of-line line (joined lines ++ rest) are.0
    ∙ ap (λ later. line ∷ later) (lines_of-joined lines rest are.1)
