-- What is left of a list where its item at a place goes, and the last one comes there.
use Rattle.std.proofs.Common.{◌≡◌, ◌⊎◌, inl, inr, ℕ, zero, suc, ◌+◌, ◌-◌, ◌<◌, List, [], ◌∷◌, ◌++◌, length, take, drop, refl, sym, ap, ◌∙◌, subst, arith, get_or, set, swap_remove}

-- the last item comes first
abbrev pub Turned : {X : Type 0} → List X → List X → Type 0
Turned {X} xs ys = ((xs ≡ []) × (ys ≡ [])) ⊎ ((es : List X) × (e : X) × (xs ≡ es ++ e ∷ []) × (ys ≡ e ∷ es))

last_of : {X : Type 0} (x : X) (xs : List X) → (es : List X) × (e : X) × (x ∷ xs ≡ es ++ e ∷ [])
last_of x [] = ([], x, refl)
last_of x (y ∷ ys) = (let rest = last_of y ys in (x ∷ rest.0, rest.1, ap (◌∷◌ x) rest.2))

last_is : {X : Type 0} (es : List X) (e d : X) → get_or (es ++ e ∷ []) (length es) d ≡ e
last_is [] e d = refl
last_is (x ∷ es) e d = last_is es e d

front : {X : Type 0} (es : List X) (e : X) → take (length es) (es ++ e ∷ []) ≡ es
front [] e = refl
front (x ∷ es) e = ap (◌∷◌ x) (front es e)

long : {X : Type 0} (es : List X) (e : X) → length (es ++ e ∷ []) ≡ suc (length es)
long [] e = refl
long (x ∷ es) e = ap suc (long es e)

-- the list without its first item, the last one in its place
first_goes : {X : Type 0} (x d : X) (xs : List X) → Turned xs (take (length xs) (get_or (x ∷ xs) (length xs) d ∷ xs))
first_goes x d [] = inl (refl, refl)
first_goes {X} x d (y ∷ ys) =
    let whole = last_of y ys in
    let is : y ∷ ys ≡ whole.0 ++ whole.1 ∷ [] = whole.2 in
    inr (
      whole.0,
      whole.1,
      is,
      (
          (λ i. take (length (is i)) (get_or (x ∷ is i) (length (is i)) d ∷ is i))
          ∙ ap (λ n. take n (get_or (x ∷ (whole.0 ++ whole.1 ∷ [])) n d ∷ (whole.0 ++ whole.1 ∷ []))) (long whole.0 whole.1)
          ∙ ap (λ e. e ∷ take (length whole.0) (whole.0 ++ whole.1 ∷ [])) (last_is whole.0 whole.1 d)
          ∙ ap (◌∷◌ whole.1) (front whole.0 whole.1)
          ),
    )

abbrev gone : {X : Type 0} → List X → ℕ → X → List X
gone xs p d = take (length xs - 1) (set xs p (get_or xs (length xs - 1) d))

step : {X : Type 0} (x y : X) (ys : List X) (p : ℕ) (d : X) → gone (x ∷ y ∷ ys) (suc p) d ≡ x ∷ gone (y ∷ ys) p d
step x y ys p d =
    let less : suc (suc (length ys)) - 1 ≡ suc (suc (length ys) - 1) = omega arith in
    ap (λ n. take n (x ∷ set (y ∷ ys) p (get_or (x ∷ y ∷ ys) n d))) less

-- what is before the place stays, and what is behind it is turned
pub turned_behind : {X : Type 0} (xs : List X) (p : ℕ) (d : X) → p < length xs → (take p (swap_remove xs p d) ≡ take p xs) × Turned (drop (suc p) xs) (drop p (swap_remove xs p d))
turned_behind [] p d lt = absurd (omega (arith, lt))
turned_behind (x ∷ xs) zero d lt =
    let less : length xs ≡ suc (length xs) - 1 = omega arith in
    (refl, subst (λ n. Turned xs (take n (get_or (x ∷ xs) n d ∷ xs))) less (first_goes x d xs))
turned_behind (x ∷ []) (suc p) d lt = absurd (omega (arith, lt))
turned_behind (x ∷ y ∷ ys) (suc p) d lt =
    let rest = turned_behind (y ∷ ys) p d (omega (arith, lt)) in
    let is = step x y ys p d in
    (ap (take (suc p)) is ∙ ap (◌∷◌ x) rest.0, subst (λ zs. Turned (drop (suc p) (y ∷ ys)) (drop (suc p) zs)) (sym is) rest.1)

-- an item and what is behind it
pub item_behind : {X : Type 0} (xs : List X) (p : ℕ) (x : X) → p < length xs → x ≡ get_or xs p x → drop p xs ≡ x ∷ drop (suc p) xs
item_behind [] p x lt is = absurd (omega (arith, lt))
item_behind (y ∷ ys) zero x lt is = ap (λ z. z ∷ ys) (sym is)
item_behind (y ∷ ys) (suc p) x lt is = item_behind ys p x (omega (arith, lt)) is

-- what is before it, and the item
pub item_before : {X : Type 0} (xs : List X) (p : ℕ) (x : X) → p < length xs → x ≡ get_or xs p x → take (suc p) xs ≡ take p xs ++ x ∷ []
item_before [] p x lt is = absurd (omega (arith, lt))
item_before (y ∷ ys) zero x lt is = ap (λ z. z ∷ []) (sym is)
item_before (y ∷ ys) (suc p) x lt is = ap (◌∷◌ y) (item_before ys p x (omega (arith, lt)) is)
