-- A text without the word at its front, both of them behind a `#`.
use Rattle.std.proofs.Common.{◌≡◌, ℕ, List, ◌∷◌, ◌++◌, length, drop, take, ap, sym, ◌∙◌}
use Rattle.std.specs.Prelude.{Option, Some, None, MatchOption}
use Rattle.std.specs.Str.Pattern.{FindsTextPrefix, StripsPrefix}
use Rattle.std.proofs.lemmas.Bool.{false_from_ne_true}
use Rattle.std.proofs.lemmas.List.{take-append-drop}
use Rattle.std.proofs.Math.Seq.{take-append_seam}
use Rattle.std.proofs.lemmas.Slice.Eq.{bytes_eq-Decides}
use denote.Ref.{Bor}
use Rattle.command_text.specs.Tokens.{mark, IsAbsent, IsAfter}

pub word_stripped : (word text : List ℕ) (r : Option (Bor (List ℕ)))
    → MatchOption r (FindsTextPrefix word text None) (λ x. StripsPrefix (FindsTextPrefix word) text x.now)
    → MatchOption r (IsAbsent (mark ∷ word) (mark ∷ text)) (λ rest. IsAfter (mark ∷ word) (mark ∷ text) rest.now)
word_stripped word text None lacks = false_from_ne_true _
    (λ e. lacks (drop (length word) text)
    (sym (take-append-drop (length word) text)
    ∙ ap (λ (xs : List ℕ). xs ++ drop (length word) text) ((bytes_eq-Decides (take (length word) text) word).0 e)))
word_stripped word text (Some x) (n, found, cut, fits) =
    let front : take (length word) text ≡ word =
    ap (λ (xs : List ℕ). take (length word) xs) found.1 ∙ take-append_seam word (drop n text) in
    ((bytes_eq-Decides (take (length word) text) word).1 front, cut ∙ ap (λ (k : ℕ). drop k text) found.0)
