-- Where the first newline stands.
use Rattle.std.proofs.Common.{◌≡◌, ℕ, ◌+◌, ◌<◌, ◌≤◌, false, ◌||◌, List, ◌∷◌, length, take, drop, get_or, sym, ap, ◌∙◌, arith, length-drop, length-take, suc, add-one, eqb-true, le_refl}
use Rattle.std.proofs.lemmas.Bool.{false_from_ne_true}
use Rattle.std.proofs.lemmas.List.{take-append-drop, take_all, get_or-take, get_or-drop}
use Rattle.std.proofs.lemmas.List.Folds.{list_any-append, list_any_none}
use Rattle.std.proofs.lemmas.List.Elements.{All-from_get_or}
use Rattle.std.proofs.Math.Seq.{take-add, drop-cons}
use Rattle.memchr.specs.Find.{Nowhere, NoneBefore, Passes}
use Rattle.cue_io.specs.Lines.{has_newline, is_newline}
use Rattle.cue_io.specs.Steps.{IsFirstNewline}

-- the bytes before a place that have no newline, and those from it on that have none
pub none_in_both : (bytes : List ℕ) (from : ℕ) → has_newline (take from bytes) ≡ false → has_newline (drop from bytes) ≡ false
    → has_newline bytes ≡ false
none_in_both bytes from before after =
    ap has_newline (sym (take-append-drop from bytes))
    ∙ list_any-append is_newline (take from bytes) (drop from bytes)
    ∙ ap (λ b. b || has_newline (drop from bytes)) before
    ∙ after

-- no byte of the first count is a newline, where none at a place below it is one
none_in_front : (bytes : List ℕ) (count : ℕ) → Nowhere (Passes is_newline bytes) 0 count → has_newline (take count bytes) ≡ false
none_in_front bytes count none =
    list_any_none is_newline (take count bytes) (All-from_get_or (λ b. is_newline b ≡ false) (take count bytes) 0
    (λ i h. let below : i < count = omega (arith, length-take count bytes) in
    ap is_newline (get_or-take count bytes i 0 below)
    ∙ false_from_ne_true (is_newline (get_or bytes i 0)) (none i (omega arith) below)))

-- where the search finds none, there is none
pub none_found : (bytes : List ℕ) → Nowhere (Passes is_newline bytes) 0 (length bytes) → has_newline bytes ≡ false
none_found bytes none =
    ap has_newline (sym (take_all (length bytes) bytes (le_refl (length bytes)))) ∙ none_in_front bytes (length bytes) none

-- the first newline of the bytes from a place on is the first of all, where none is before that place
pub first_found : (bytes : List ℕ) (from at : ℕ) → from ≤ length bytes → has_newline (take from bytes) ≡ false
    → NoneBefore (Passes is_newline (drop from bytes)) 0 (length (drop from bytes)) at → Passes is_newline (drop from bytes) at
    → (from + at < length bytes) × IsFirstNewline bytes (from + at)
first_found bytes from at within before first here =
    let inside : from + at < length bytes = omega (arith, length-drop from bytes, first.high) in
    let newline : get_or bytes (from + at) 0 ≡ 10 = sym (get_or-drop from bytes at 0) ∙ eqb-true (get_or (drop from bytes) at 0) 10 here in (
      inside,
      record {
        before =
            ap has_newline (take-add from at bytes)
            ∙ list_any-append is_newline (take from bytes) (take at (drop from bytes))
            ∙ ap (λ b. b || has_newline (take at (drop from bytes))) before
            ∙ none_in_front (drop from bytes) at first.before;
        here = rw add-one (drop-cons bytes (from + at) 0 inside ∙ ap (λ b. b ∷ drop (suc (from + at)) bytes) newline);
      },
    )
