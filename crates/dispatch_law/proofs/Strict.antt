-- Lists whose items rise strictly by a total order: such a list is known by its members.
use Rattle.std.proofs.Common.{◌≡◌, ℕ, suc, ◌⊎◌, inl, inr, Bool, true, false, cond, List, [], ◌∷◌, ◌++◌, Some, refl, sym, ap, subst, ◌∙◌, zero}
use Rattle.std.specs.Cmp.{IsTotalOrder}
use Rattle.std.specs.List.{slice_get, flat_map}
use Rattle.std.specs.declared.cmp.Ordering.{Ordering}
use Rattle.std.specs.declared.cmp.Ordering.TheVariants.{Less, Equal, Greater}
use Rattle.std.specs.Ordering.{is_gt, ordering_reverse}
use Rattle.std.proofs.lemmas.Cmp.{tied_itself}
use Rattle.std.proofs.lemmas.Option.{same_Some}

-- ---- members

-- an item of the list, at some place
pub record Has {X : Type 0} (xs : List X) (x : X) : Type 0 where
  pub place : ℕ
  pub at : slice_get xs place ≡ Some x

pub has_first : {X : Type 0} (x : X) (xs : List X) → Has (x ∷ xs) x
has_first x xs = record { place = 0; at = refl }

pub has_later : {X : Type 0} (y x : X) (xs : List X) → Has xs x → Has (y ∷ xs) x
has_later y x xs h = record { place = suc h.place; at = h.at }

pub has_none : {X : Type 0} (x : X) → Has [] x → ⊥
has_none x h = cc

split_at : {X : Type 0} (y x : X) (xs : List X) (n : ℕ) → slice_get (y ∷ xs) n ≡ Some x → (y ≡ x) ⊎ Has xs x
split_at y x xs zero at = inl (same_Some y x at)
split_at y x xs (suc n) at = inr (record { place = n; at = at })

pub has_split : {X : Type 0} (y x : X) (xs : List X) → Has (y ∷ xs) x → (y ≡ x) ⊎ Has xs x
has_split y x xs h = split_at y x xs h.place h.at

pub has_left : {X : Type 0} (xs ys : List X) (x : X) → Has xs x → Has (xs ++ ys) x
has_left [] ys x h = absurd (has_none x h)
has_left (y ∷ xs) ys x h = elim (has_split y x xs h) [ inl e ↦ subst (Has (y ∷ (xs ++ ys))) e (has_first y (xs ++ ys)) | inr k ↦ has_later y x (xs ++ ys) (has_left xs ys x k) ]

pub has_right : {X : Type 0} (xs ys : List X) (x : X) → Has ys x → Has (xs ++ ys) x
has_right [] ys x h = h
has_right (y ∷ xs) ys x h = has_later y x (xs ++ ys) (has_right xs ys x h)

pub has_both : {X : Type 0} (xs ys : List X) (x : X) → Has (xs ++ ys) x → Has xs x ⊎ Has ys x
has_both [] ys x h = inr h
has_both (y ∷ xs) ys x h =
    elim (has_split y x (xs ++ ys) h) [
      | inl e ↦ inl (subst (Has (y ∷ xs)) e (has_first y xs))
      | inr k ↦ elim (has_both xs ys x k) [ inl l ↦ inl (has_later y x xs l) | inr r ↦ inr r ]
    ]

-- an item of a piece of a flat map, and from which item the piece is
pub record HasFrom {X Y : Type 0} (g : X → List Y) (xs : List X) (y : Y) : Type 0 where
  pub from : X
  pub there : Has xs from
  pub within : Has (g from) y

pub flat_has : {X Y : Type 0} (g : X → List Y) (xs : List X) (x : X) (y : Y) → Has xs x → Has (g x) y → Has (flat_map g xs) y
flat_has g [] x y h k = absurd (has_none x h)
flat_has g (z ∷ xs) x y h k =
    elim (has_split z x xs h) [
      | inl e ↦ has_left (g z) (flat_map g xs) y (subst (λ w. Has (g w) y) (sym e) k)
      | inr l ↦ has_right (g z) (flat_map g xs) y (flat_has g xs x y l k)
    ]

pub flat_from : {X Y : Type 0} (g : X → List Y) (xs : List X) (y : Y) → Has (flat_map g xs) y → HasFrom g xs y
flat_from g [] y h = absurd (has_none y h)
flat_from g (x ∷ xs) y h =
    elim (has_both (g x) (flat_map g xs) y h) [
      | inl l ↦ record { from = x; there = has_first x xs; within = l }
      | inr r ↦ let later = flat_from g xs y r in record { from = later.from; there = has_later x later.from xs later.there; within = later.within }
    ]

-- ---- strictly rising

module _ {X : Type 0} (cmp : X → X → Ordering) where
  -- each item comes before each later one
  abbrev pub IsStrict : List X → Type 0
  IsStrict [] = Unit {0}
  IsStrict (x ∷ xs) = ((y : X) → Has xs y → cmp x y ≡ Less) × IsStrict xs

  -- each item of the first list comes before each of the second
  abbrev pub AllBefore : List X → List X → Type 0
  AllBefore xs ys = (x y : X) → Has xs x → Has ys y → cmp x y ≡ Less

  pub strict_append : (xs ys : List X) → IsStrict xs → IsStrict ys → AllBefore xs ys → IsStrict (xs ++ ys)
  strict_append [] ys s t before = t
  strict_append (x ∷ xs) ys s t before =
      (λ y h. elim (has_both xs ys y h) [ inl l ↦ s.0 y l | inr r ↦ before x y (has_first x xs) r ], strict_append xs ys s.1 t (λ a b h k. before a b (has_later x a xs h) k))

  module _ (total : IsTotalOrder cmp) where
    reversed_less : (x y : X) → cmp x y ≡ Less → cmp y x ≡ Greater
    reversed_less x y e = total.antisymm y x ∙ ap ordering_reverse e

    not_both : (x y : X) → cmp x y ≡ Less → cmp y x ≡ Less → ⊥
    not_both x y e k = let r = reversed_less x y e in cc

    not_itself : (x : X) → cmp x x ≡ Less → ⊥
    not_itself x e = let r = tied_itself total x in cc

    -- two strictly rising lists of the same members are one
    pub strict_same : (xs ys : List X) → IsStrict xs → IsStrict ys → ((x : X) → Has xs x → Has ys x) → ((y : X) → Has ys y → Has xs y) → xs ≡ ys
    strict_same [] [] s t to from = refl
    strict_same [] (y ∷ ys) s t to from = absurd (has_none y (from y (has_first y ys)))
    strict_same (x ∷ xs) [] s t to from = absurd (has_none x (to x (has_first x xs)))
    strict_same (x ∷ xs) (y ∷ ys) s t to from =
        let same : x ≡ y = heads (has_split y x ys (to x (has_first x xs))) (has_split x y xs (from y (has_first y ys))) in
        let tails : xs ≡ ys = strict_same xs ys s.1 t.1
        (λ z h. elim (has_split y z ys (to z (has_later x z xs h))) [ inl e ↦ absurd (not_itself x (subst (λ w. cmp x w ≡ Less) (sym (same ∙ e)) (s.0 z h))) | inr k ↦ k ])
        (λ z h. elim (has_split x z xs (from z (has_later y z ys h))) [ inl e ↦ absurd (not_itself y (subst (λ w. cmp y w ≡ Less) (sym (sym same ∙ e)) (t.0 z h))) | inr k ↦ k ]) in
        ap (λ w. w ∷ xs) same ∙ ap (λ ws. y ∷ ws) tails
      where
        heads : (y ≡ x) ⊎ Has ys x → (x ≡ y) ⊎ Has xs y → x ≡ y
        heads (inl e) right = sym e
        heads (inr h) (inl e) = e
        heads (inr h) (inr k) = absurd (not_both x y (s.0 y k) (t.0 x h))

-- ---- flat maps

-- pieces that rise strictly, each before those of later items, make a list that does
pub flat_strict : {X Y : Type 0} (cmp : Y → Y → Ordering) (before : X → X → Ordering) (g : X → List Y) (xs : List X) → IsStrict before xs → ((x : X) → Has xs x → IsStrict cmp (g x))
    → ((x y : X) → Has xs x → Has xs y → before x y ≡ Less → AllBefore cmp (g x) (g y)) → IsStrict cmp (flat_map g xs)
flat_strict cmp before g [] s each apart = tt
flat_strict cmp before g (x ∷ xs) s each apart =
    strict_append cmp (g x) (flat_map g xs) (each x (has_first x xs))
    (flat_strict cmp before g xs s.1 (λ y h. each y (has_later x y xs h)) (λ a b h k. apart a b (has_later x a xs h) (has_later x b xs k)))
    (λ a b h k. let from = flat_from g xs b k in apart x from.from (has_first x xs) (has_later x from.from xs from.there) (s.0 from.from from.there) a b h from.within)

-- ---- sorting by insertion

module _ {X : Type 0} (cmp : X → X → Ordering) where
  abbrev pub insert_by : X → List X → List X
  insert_by x [] = x ∷ []
  insert_by x (y ∷ ys) = cond (is_gt (cmp x y)) (y ∷ insert_by x ys) (x ∷ y ∷ ys)

  abbrev pub sorted_by : List X → List X
  sorted_by [] = []
  sorted_by (x ∷ xs) = insert_by x (sorted_by xs)

  inserted_by : (b : Bool) (x y : X) (ys zs : List X) (z : X) → ((w : X) → Has zs w → (x ≡ w) ⊎ Has ys w) → Has (cond b (y ∷ zs) (x ∷ y ∷ ys)) z → (x ≡ z) ⊎ Has (y ∷ ys) z
  inserted_by true x y ys zs z later h =
      elim (has_split y z zs h) [
        | inl e ↦ inr (subst (Has (y ∷ ys)) e (has_first y ys))
        | inr k ↦ elim (later z k) [ inl e ↦ inl e | inr l ↦ inr (has_later y z ys l) ]
      ]
  inserted_by false x y ys zs z later h = has_split x z (y ∷ ys) h

  -- what is inserted, or was there
  pub insert_has : (x : X) (ys : List X) (z : X) → Has (insert_by x ys) z → (x ≡ z) ⊎ Has ys z
  insert_has x [] z h = has_split x z [] h
  insert_has x (y ∷ ys) z h = inserted_by (is_gt (cmp x y)) x y ys (insert_by x ys) z (insert_has x ys) h

  holds_by : (b : Bool) (x y : X) (ys zs : List X) (z : X) → ((w : X) → (x ≡ w) ⊎ Has ys w → Has zs w) → (x ≡ z) ⊎ Has (y ∷ ys) z → Has (cond b (y ∷ zs) (x ∷ y ∷ ys)) z
  holds_by true x y ys zs z later (inl e) = has_later y z zs (later z (inl e))
  holds_by true x y ys zs z later (inr h) = elim (has_split y z ys h) [ inl e ↦ subst (Has (y ∷ zs)) e (has_first y zs) | inr k ↦ has_later y z zs (later z (inr k)) ]
  holds_by false x y ys zs z later (inl e) = subst (Has (x ∷ y ∷ ys)) e (has_first x (y ∷ ys))
  holds_by false x y ys zs z later (inr h) = has_later x z (y ∷ ys) h

  pub has_insert : (x : X) (ys : List X) (z : X) → (x ≡ z) ⊎ Has ys z → Has (insert_by x ys) z
  has_insert x [] z (inl e) = subst (Has (x ∷ [])) e (has_first x [])
  has_insert x [] z (inr h) = absurd (has_none z h)
  has_insert x (y ∷ ys) z h = holds_by (is_gt (cmp x y)) x y ys (insert_by x ys) z (has_insert x ys) h

  pub sorted_has : (xs : List X) (z : X) → Has (sorted_by xs) z → Has xs z
  sorted_has [] z h = h
  sorted_has (x ∷ xs) z h =
      elim (insert_has x (sorted_by xs) z h) [ inl e ↦ subst (Has (x ∷ xs)) e (has_first x xs) | inr k ↦ has_later x z xs (sorted_has xs z k) ]

  pub has_sorted : (xs : List X) (z : X) → Has xs z → Has (sorted_by xs) z
  has_sorted [] z h = h
  has_sorted (x ∷ xs) z h =
      has_insert x (sorted_by xs) z (elim (has_split x z xs h) as (λ _. (x ≡ z) ⊎ Has (sorted_by xs) z) [ inl e ↦ inl e | inr k ↦ inr (has_sorted xs z k) ])

  -- no two items tie
  abbrev pub AreApart : List X → Type 0
  AreApart [] = Unit {0}
  AreApart (x ∷ xs) = ((y : X) → Has xs y → cmp x y ≡ Equal → ⊥) × AreApart xs

  module _ (total : IsTotalOrder cmp) where
    less_by : (o : Ordering) (x y : X) → cmp x y ≡ o → (cmp x y ≡ Equal → ⊥) → is_gt o ≡ false → cmp x y ≡ Less
    less_by Less x y e apart low = e
    less_by Equal x y e apart low = absurd (apart e)
    less_by Greater x y e apart low = cc

    flipped : (x y : X) → is_gt (cmp x y) ≡ true → cmp y x ≡ Less
    flipped x y high = flipped_by (cmp x y) refl high
      where
        flipped_by : (o : Ordering) → cmp x y ≡ o → is_gt o ≡ true → cmp y x ≡ Less
        flipped_by Less e h = cc
        flipped_by Equal e h = cc
        flipped_by Greater e h = total.antisymm y x ∙ ap ordering_reverse e

    put_strict : (b : Bool) (x y : X) (ys : List X) → is_gt (cmp x y) ≡ b → IsStrict cmp (y ∷ ys) → ((z : X) → Has (y ∷ ys) z → cmp x z ≡ Equal → ⊥) → IsStrict cmp (insert_by x ys)
        → IsStrict cmp (cond b (y ∷ insert_by x ys) (x ∷ y ∷ ys))
    put_strict true x y ys e s apart later =
        (λ z h. elim (insert_has x ys z h) [ inl same ↦ subst (λ w. cmp y w ≡ Less) same (flipped x y e) | inr k ↦ s.0 z k ], later)
    put_strict false x y ys e s apart later =
        let first : cmp x y ≡ Less = less_by (cmp x y) x y refl (apart y (has_first y ys)) e in
        (λ z h. elim (has_split y z ys h) [ inl same ↦ subst (λ w. cmp x w ≡ Less) same first | inr k ↦ total.trans x y z first (s.0 z k) ], s)

    insert_strict : (x : X) (ys : List X) → IsStrict cmp ys → ((z : X) → Has ys z → cmp x z ≡ Equal → ⊥) → IsStrict cmp (insert_by x ys)
    insert_strict x [] s apart = (λ y h. absurd (has_none y h), tt)
    insert_strict x (y ∷ ys) s apart = put_strict (is_gt (cmp x y)) x y ys refl s apart (insert_strict x ys s.1 (λ z h. apart z (has_later y z ys h)))

    -- items of which no two tie, sorted, rise strictly
    pub sorted_strict : (xs : List X) → AreApart xs → IsStrict cmp (sorted_by xs)
    sorted_strict [] apart = tt
    sorted_strict (x ∷ xs) apart = insert_strict x (sorted_by xs) (sorted_strict xs apart.1) (λ z h. apart.0 z (sorted_has xs z h))
