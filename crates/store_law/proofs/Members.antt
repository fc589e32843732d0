-- Members of lists.
use Rattle.std.proofs.Common.{◌≡◌, ℕ, suc, zero, Bool, true, false, cond, ◌||◌, List, [], ◌∷◌, ◌++◌, map, Option, Some, None, refl, ap, sym, subst, ◌∙◌, ◌⊎◌, inl, inr}
use Rattle.std.specs.Prelude.{is_some}
use Rattle.std.specs.List.{AllByRecursion, filter, find, list_any, slice_get}
use Rattle.std.proofs.lemmas.Bool.{false≢true, or_left, or_right}
use Rattle.std.proofs.lemmas.Option.{none-some, same_Some}

-- the list has the item
abbrev pub Has : {X : Type 0} → List X → X → Type 0
Has [] x = ⊥
Has (y ∷ ys) x = (y ≡ x) ⊎ Has ys x

module _ {X : Type 0} where
  pub has_at : (xs : List X) (n : ℕ) (x : X) → slice_get xs n ≡ Some x → Has xs x
  has_at [] n x at = absurd (none-some x at)
  has_at (y ∷ ys) zero x at = inl (same_Some y x at)
  has_at (y ∷ ys) (suc n) x at = inr (has_at ys n x at)

  pub place_of : (xs : List X) (x : X) → Has xs x → (n : ℕ) × (slice_get xs n ≡ Some x)
  place_of [] x h = absurd h
  place_of (y ∷ ys) x (inl is) = (0, ap Some is)
  place_of (y ∷ ys) x (inr h) = let later = place_of ys x h in (suc later.0, later.1)

  -- ---- lists joined

  pub has_front : (xs ys : List X) (x : X) → Has xs x → Has (xs ++ ys) x
  has_front [] ys x h = absurd h
  has_front (z ∷ zs) ys x (inl is) = inl is
  has_front (z ∷ zs) ys x (inr h) = inr (has_front zs ys x h)

  pub has_behind : (xs ys : List X) (x : X) → Has ys x → Has (xs ++ ys) x
  has_behind [] ys x h = h
  has_behind (z ∷ zs) ys x h = inr (has_behind zs ys x h)

  -- what holds of each item of both holds of each item of the two joined
  pub has_either : (P : Type 0) (xs ys : List X) (x : X) → (Has xs x → P) → (Has ys x → P) → Has (xs ++ ys) x → P
  has_either P [] ys x first second h = second h
  has_either P (z ∷ zs) ys x first second (inl is) = first (inl is)
  has_either P (z ∷ zs) ys x first second (inr h) = has_either P zs ys x (λ there. first (inr there)) second h

  -- ---- facts of all items

  pub all_has : (P : X → Type 0) (xs : List X) (x : X) → AllByRecursion P xs → Has xs x → P x
  all_has P [] x all h = absurd h
  all_has P (y ∷ ys) x all (inl is) = subst P is all.0
  all_has P (y ∷ ys) x all (inr h) = all_has P ys x all.1 h

  pub all_from_has : (P : X → Type 0) (xs : List X) → ((x : X) → Has xs x → P x) → AllByRecursion P xs
  all_from_has P [] each = tt
  all_from_has P (y ∷ ys) each = (each y (inl refl), all_from_has P ys (λ x h. each x (inr h)))

  -- ---- items that pass a test

  find_step : (b : Bool) (y x : X) (ys : List X) (rest : Option X) → cond b (Some y) rest ≡ Some x → (rest ≡ Some x → Has ys x) → Has (y ∷ ys) x
  find_step true y x ys rest at later = inl (same_Some y x at)
  find_step false y x ys rest at later = inr (later at)

  pub has_found : (test : X → Bool) (xs : List X) (x : X) → find test xs ≡ Some x → Has xs x
  has_found test [] x at = absurd (none-some x at)
  has_found test (y ∷ ys) x at = find_step (test y) y x ys (find test ys) at (has_found test ys x)

  some_first : (b : Bool) (y : X) (rest : Option X) → b ≡ true → is_some (cond b (Some y) rest) ≡ true
  some_first true y rest h = refl
  some_first false y rest h = absurd (false≢true h)

  some_later : (b : Bool) (y : X) (rest : Option X) → is_some rest ≡ true → is_some (cond b (Some y) rest) ≡ true
  some_later true y rest h = refl
  some_later false y rest h = h

  -- an item that passes lets one be found
  pub some_found : (test : X → Bool) (xs : List X) (x : X) → Has xs x → test x ≡ true → is_some (find test xs) ≡ true
  some_found test [] x h passes = absurd h
  some_found test (y ∷ ys) x (inl is) passes = some_first (test y) y (find test ys) (ap test is ∙ passes)
  some_found test (y ∷ ys) x (inr h) passes = some_later (test y) y (find test ys) (some_found test ys x h passes)

  pub any_has : (test : X → Bool) (xs : List X) (x : X) → Has xs x → test x ≡ true → list_any test xs ≡ true
  any_has test [] x h passes = absurd h
  any_has test (y ∷ ys) x (inl is) passes = or_left (test y) (list_any test ys) (ap test is ∙ passes)
  any_has test (y ∷ ys) x (inr h) passes = or_right (test y) (list_any test ys) (any_has test ys x h passes)

  abbrev pub OneOf : (X → Bool) → List X → Type 0
  OneOf test xs = (x : X) × Has xs x × (test x ≡ true)

  any_step : (test : X → Bool) (b : Bool) (y : X) (ys : List X) → test y ≡ b → (list_any test ys ≡ true → OneOf test ys) → (b || list_any test ys) ≡ true → OneOf test (y ∷ ys)
  any_step test true y ys is later h = (y, inl refl, is)
  any_step test false y ys is later h = let one = later h in (one.0, inr one.1, one.2)

  pub one_from_any : (test : X → Bool) (xs : List X) → list_any test xs ≡ true → OneOf test xs
  one_from_any test [] h = absurd (false≢true h)
  one_from_any test (y ∷ ys) h = any_step test (test y) y ys refl (one_from_any test ys) h

module _ {X : Type 0} (keep : X → Bool) where
  kept_step : (b : Bool) (y x : X) (ys kept : List X) → keep y ≡ b → (Has kept x → Has ys x × (keep x ≡ true)) → Has (cond b (y ∷ kept) kept) x → Has (y ∷ ys) x × (keep x ≡ true)
  kept_step true y x ys kept is later (inl here) = (inl here, ap keep (sym here) ∙ is)
  kept_step true y x ys kept is later (inr h) = let rest = later h in (inr rest.0, rest.1)
  kept_step false y x ys kept is later h = let rest = later h in (inr rest.0, rest.1)

  -- an item that stayed was there, and passes
  pub kept_has : (xs : List X) (x : X) → Has (filter keep xs) x → Has xs x × (keep x ≡ true)
  kept_has [] x h = absurd h
  kept_has (y ∷ ys) x h = kept_step (keep y) y x ys (filter keep ys) refl (kept_has ys x) h

  has_step : (b : Bool) (y x : X) (ys kept : List X) → keep y ≡ b → keep x ≡ true → (Has ys x → Has kept x) → Has (y ∷ ys) x → Has (cond b (y ∷ kept) kept) x
  has_step true y x ys kept is passes later (inl here) = inl here
  has_step true y x ys kept is passes later (inr h) = inr (later h)
  has_step false y x ys kept is passes later (inl here) = absurd (false≢true (sym is ∙ (ap keep here ∙ passes)))
  has_step false y x ys kept is passes later (inr h) = later h

  -- an item that passes stays
  pub has_kept : (xs : List X) (x : X) → keep x ≡ true → Has xs x → Has (filter keep xs) x
  has_kept [] x passes h = absurd h
  has_kept (y ∷ ys) x passes h = has_step (keep y) y x ys (filter keep ys) refl passes (has_kept ys x passes) h

pub has_map : {X Y : Type 0} (make : X → Y) (xs : List X) (x : X) → Has xs x → Has (map make xs) (make x)
has_map make [] x h = absurd h
has_map make (y ∷ ys) x (inl is) = inl (ap make is)
has_map make (y ∷ ys) x (inr h) = inr (has_map make ys x h)

-- what an item of a mapped list was made from
pub has_mapped : {X Y : Type 0} (make : X → Y) (xs : List X) (y : Y) → Has (map make xs) y → (x : X) × Has xs x × (make x ≡ y)
has_mapped make [] y h = absurd h
has_mapped make (z ∷ zs) y (inl is) = (z, inl refl, is)
has_mapped make (z ∷ zs) y (inr h) = let later = has_mapped make zs y h in (later.0, inr later.1, later.2)

-- what there is
pub there : {X : Type 0} (o : Option X) → is_some o ≡ true → (x : X) × (o ≡ Some x)
there None h = absurd (false≢true h)
there (Some x) h = (x, refl)
