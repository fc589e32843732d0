-- Counts that are marked one after the other.
use Rattle.std.proofs.Common.{◌≡◌, ℕ, zero, suc, ◌||◌, Bool, true, false, List, [], ◌∷◌, ◌++◌, ◌+◌, take, drop, Some, refl, sym, ap, ◌∙◌, arith}
use Rattle.std.specs.List.{slice_get, slice_set}
use Rattle.std.proofs.lemmas.Option.{none-some, same_Some}
use Rattle.depend_edges.specs.declared.listed.Count.{Count}
use Rattle.depend_graph.specs.Graph.{is_flagged}
use Rattle.depend_graph.specs.Marked.{marked, marked_counts}

none_marked : (cs : List Count) → marked_counts cs [] ≡ cs
none_marked [] = refl
none_marked (c ∷ cs) = refl

or_none : (b : Bool) → (b || false) ≡ b
or_none true = refl
or_none false = refl

none_left : (k : ℕ) → drop {A = Bool} k [] ≡ []
none_left zero = refl
none_left (suc k) = refl

none_flagged : (k : ℕ) → is_flagged [] k ≡ false
none_flagged zero = refl
none_flagged (suc k) = refl

-- the count at a place is marked, and those behind it will be
marked_step : (cs : List Count) (ms : List Bool) (k : ℕ) (c : Count) → slice_get cs k ≡ Some c
    → take (suc k) (slice_set cs k (marked (is_flagged ms k) c)) ++ marked_counts (drop (suc k) (slice_set cs k (marked (is_flagged ms k) c))) (drop (suc k) ms) ≡ take k cs ++ marked_counts (drop k cs) (drop k ms)
marked_step [] ms k c at = absurd (none-some c at)
marked_step (x ∷ xs) [] zero c at = λ i. record { undone = (same_Some c x (sym at) i).undone; met = (ap (λ (y : Count). y.met || false) (same_Some c x (sym at)) ∙ or_none x.met) i } ∷ none_marked xs i
marked_step (x ∷ xs) (m ∷ ms) zero c at = ap (λ (y : Count). marked m y ∷ marked_counts xs ms) (same_Some c x (sym at))
marked_step (x ∷ xs) [] (suc k) c at =
    let flag : false ≡ is_flagged [] k = sym (none_flagged k) in
    let left : [] ≡ drop {A = Bool} k [] = sym (none_left k) in
    (λ i. x ∷ (take (suc k) (slice_set xs k (marked (flag i) c)) ++ marked_counts (drop (suc k) (slice_set xs k (marked (flag i) c))) []))
    ∙ (ap (λ (ys : List Count). x ∷ ys) (marked_step xs [] k c at) ∙ λ i. x ∷ (take k xs ++ marked_counts (drop k xs) (sym left i)))
marked_step (x ∷ xs) (m ∷ ms) (suc k) c at = ap (λ (ys : List Count). x ∷ ys) (marked_step xs ms k c at)

-- and so is each in turn
pub marked_next : (cs news last : List Count) (ms : List Bool) (k : ℕ) (c : Count) (b : Bool) → slice_get cs k ≡ Some c → b ≡ is_flagged ms k → news ≡ slice_set cs k (marked b c)
    → take k cs ++ marked_counts (drop k cs) (drop k ms) ≡ last → take (k + 1) news ++ marked_counts (drop (k + 1) news) (drop (k + 1) ms) ≡ last
marked_next cs news last ms k c b at flag set before =
    let next : k + 1 ≡ suc k = omega arith in
    let is : news ≡ slice_set cs k (marked (is_flagged ms k) c) = set ∙ ap (λ m. slice_set cs k (marked m c)) flag in
    (λ i. take (next i) (is i) ++ marked_counts (drop (next i) (is i)) (drop (next i) ms)) ∙ (marked_step cs ms k c at ∙ before)
