-- Parts of a buffer.
use Rattle.std.proofs.Common.{◌≡◌, ℕ, ◌+◌, ◌-◌, ◌≤◌, List, ◌++◌, take, drop, sym, ap, ◌∙◌, arith, slice_range, Result, Ok, Err, OnErr}
use Rattle.std.proofs.lemmas.List.{take-take, drop-drop, drop-take}
use Rattle.std.proofs.Math.Seq.{take-add}

-- the front of a part
pub range_front : (xs : List ℕ) (i j n : ℕ) → n ≤ j - i → slice_range xs i (i + n) ≡ take n (slice_range xs i j)
range_front xs i j n within =
    let e : (i + n) - i ≡ n = omega arith in
    ap (λ k. take k (drop i xs)) e ∙ sym (take-take n (j - i) (drop i xs) within)

-- what is left of a part behind its front
pub range_rest : (xs : List ℕ) (i j n : ℕ) → n ≤ j - i → slice_range xs (i + n) j ≡ drop n (slice_range xs i j)
range_rest xs i j n within =
    let count : j - (i + n) ≡ (j - i) - n = omega arith in
    let all : n + ((j - i) - n) ≡ j - i = omega arith in
    ap (λ k. take k (drop (i + n) xs)) count
    ∙ ap (take ((j - i) - n)) (sym (drop-drop n i xs))
    ∙ sym (drop-take n ((j - i) - n) (drop i xs))
    ∙ ap (λ k. drop n (take k (drop i xs))) all

-- a part and what follows it
pub range_more : (xs : List ℕ) (i j n : ℕ) → i ≤ j → slice_range xs i (j + n) ≡ slice_range xs i j ++ take n (drop j xs)
range_more xs i j n ordered =
    let count : (j + n) - i ≡ (j - i) + n = omega arith in
    let at : i + (j - i) ≡ j = omega arith in
    ap (λ k. take k (drop i xs)) count
    ∙ take-add (j - i) n (drop i xs)
    ∙ ap (λ rest. take (j - i) (drop i xs) ++ take n rest) (drop-drop (j - i) i xs ∙ ap (λ k. drop k xs) at)

-- a part of two lists that agree up to its end
pub range_same : (xs ys : List ℕ) (i j : ℕ) → i ≤ j → take j xs ≡ take j ys → slice_range xs i j ≡ slice_range ys i j
range_same xs ys i j ordered same =
    let at : i + (j - i) ≡ j = omega arith in
    sym (drop-take i (j - i) xs)
    ∙ ap (λ k. drop i (take k xs)) at
    ∙ ap (drop i) same
    ∙ ap (λ k. drop i (take k ys)) (sym at)
    ∙ drop-take i (j - i) ys

-- what holds in any case holds at an error
pub on_any : {T E P : Type 0} (r : Result T E) → P → OnErr r P
on_any (Ok x) p = tt
on_any (Err e) p = p
