-- Marks in a list, over any size of a block.
use Rattle.std.proofs.Common.{◌≡◌, ℕ, zero, suc, ◌+◌, ◌-◌, ◌*◌, ◌<◌, ◌≤◌, Bool, true, false, not, cond, List, [], ◌∷◌, length, take, drop, get_or, set, replicate, refl, ap, ◌∙◌, arith}
use Rattle.std.proofs.lemmas.List.{length-take, length-drop, length-replicate, get_or-take, get_or-drop, drop-set-lt, drop-set-add, take-set-le, take_all, take-replicate, drop-replicate}
use Rattle.std.proofs.lemmas.List.Sums.{sum_by-cons, sum_by-set, count_by-le-length}
use Rattle.std.proofs.lemmas.List.Folds.{sum_by-replicate}
use Rattle.std.proofs.Math.Seq.{take-set-lt}
use Rattle.place_set.specs.Places.{first_in}
use Rattle.place_set.specs.Inside.{marked, count_with}

-- a mark as a number
abbrev pub one : Bool → ℕ
one mark = cond mark 1 0

-- ---- a front without marks

-- where none of the next places is marked, the first marked place is the first after them
pub first_in_after : (n place : ℕ) (marks : List Bool) → marked (take n marks) ≡ 0 → first_in place marks ≡ first_in (place + n) (drop n marks)
first_in_after zero place marks none = ap (λ (p : ℕ). first_in p marks) (omega arith)
first_in_after (suc n) place [] none = refl
first_in_after (suc n) place (true ∷ marks) none =
    let more : marked (true ∷ take n marks) ≡ 1 + marked (take n marks) = sum_by-cons one true (take n marks) in
    absurd (omega (arith, none, more))
first_in_after (suc n) place (false ∷ marks) none =
    first_in_after n (place + 1) marks none ∙ ap (λ (p : ℕ). first_in p (drop n marks)) (omega arith)

-- ---- a mark that changes

pub marked_set : (marks : List Bool) (place : ℕ) (there : Bool) → place < length marks → get_or marks place false ≡ not there
    → (marked (set marks place there) ≡ count_with there (marked marks)) × (one (not there) ≤ marked marks)
marked_set marks place true within was =
    let e : marked (set marks place true) + one (get_or marks place false) ≡ marked marks + 1 = sum_by-set one marks place true false within in
    let w : one (get_or marks place false) ≡ 0 = ap one was in
    (omega (arith, e, w), omega arith)
marked_set marks place false within was =
    let e : marked (set marks place false) + one (get_or marks place false) ≡ marked marks + 0 = sum_by-set one marks place false false within in
    let w : one (get_or marks place false) ≡ 1 = ap one was in
    (omega (arith, e, w), omega (arith, e, w))

-- a mark in the n places after the first k
pub marked_within : (n k j : ℕ) (marks : List Bool) (there : Bool) → j < n → k + j < length marks → get_or marks (k + j) false ≡ not there
    → (marked (take n (drop k (set marks (k + j) there))) ≡ count_with there (marked (take n (drop k marks)))) × (one (not there) ≤ marked (take n (drop k marks)))
marked_within n k j marks there near within was =
    let part : List Bool = take n (drop k marks) in
    let long : j < length part = rw (length-take n (drop k marks), length-drop k marks) (omega arith) in
    let now : get_or part j false ≡ not there = get_or-take n (drop k marks) j false near ∙ (get_or-drop k marks j false ∙ was) in
    let changed : take n (drop k (set marks (k + j) there)) ≡ set part j there = ap (take n) (drop-set-add k marks j there) ∙ take-set-lt n (drop k marks) j there near in
    let both = marked_set part j there long now in
    (ap marked changed ∙ both.0, both.1)

-- a mark before them, or after them
pub same_before : (n k place : ℕ) (marks : List Bool) (there : Bool) → place < k → take n (drop k (set marks place there)) ≡ take n (drop k marks)
same_before n k place marks there before = ap (take n) (drop-set-lt k marks place there before)

pub same_after : (n k j : ℕ) (marks : List Bool) (there : Bool) → n ≤ j → take n (drop k (set marks (k + j) there)) ≡ take n (drop k marks)
same_after n k j marks there after = ap (take n) (drop-set-add k marks j there) ∙ take-set-le n (drop k marks) j there after

-- ---- how many

pub marked-le : (n : ℕ) (marks : List Bool) → marked (take n marks) ≤ n
marked-le n marks = omega (arith, count_by-le-length (λ (mark : Bool). mark) (take n marks), length-take n marks)

marked_all : (n : ℕ) → marked (replicate n true) ≡ n
marked_all n = let e : marked (replicate n true) ≡ n * 1 = sum_by-replicate one n true in omega (arith, e)

-- where all are marked: all n of the places after the first k, or what is there of them
pub marked_full : (n k m : ℕ) → n ≤ m - k → marked (take n (drop k (replicate m true))) ≡ n
marked_full n k m enough = ap (λ (xs : List Bool). marked (take n xs)) (drop-replicate k m true) ∙ (ap marked (take-replicate n (m - k) true enough) ∙ marked_all n)

pub marked_rest : (n k m : ℕ) → m - k ≤ n → marked (take n (drop k (replicate m true))) ≡ m - k
marked_rest n k m few =
    ap (λ (xs : List Bool). marked (take n xs)) (drop-replicate k m true)
    ∙ (ap marked (take_all n (replicate (m - k) true) (rw (length-replicate (m - k) true) few)) ∙ marked_all (m - k))
