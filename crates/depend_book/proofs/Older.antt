-- What stands as older at the place of a number.
use Rattle.std.proofs.Common.{◌≡◌, ℕ, suc, ◌≤◌, Bool, true, false, cond, List, [], ◌∷◌, eqb, length, Some, None, refl, ap, ◌∙◌, arith}
use Rattle.std.specs.List.{position_or_len, slice_get}
use Rattle.std.proofs.lemmas.Option.{none-some, same_Some}
use Rattle.std.proofs.lemmas.List.Folds.{find_at}
use Rattle.std.specs.Prelude.{find}
use Rattle.depend_book.specs.declared.row_list.RowPlace.{RowPlace}
use Rattle.depend_book.specs.Rows.{older_of, place_key}

older_found : (n : ℕ) (xs : List RowPlace) (x : RowPlace) → find (λ (y : RowPlace). eqb (place_key y) n) xs ≡ Some x → older_of n xs ≡ x.older
older_found n [] x at = absurd (none-some x at)
older_found n (y ∷ ys) x at = by_key (eqb y.row.depend n) at (older_found n ys x) where
  by_key : (b : Bool) → cond b (Some y) (find (λ (z : RowPlace). eqb (place_key z) n) ys) ≡ Some x → (find (λ (z : RowPlace). eqb (place_key z) n) ys ≡ Some x → older_of n ys ≡ x.older) → cond b y.older (older_of n ys) ≡ x.older
  by_key true same more = ap (λ (z : RowPlace). z.older) (same_Some y x same)
  by_key false same more = more same

pub older_at_place : (n : ℕ) (xs : List RowPlace) (x : RowPlace) → slice_get xs (position_or_len (λ (y : RowPlace). eqb (place_key y) n) xs) ≡ Some x → older_of n xs ≡ x.older
older_at_place n xs x at = older_found n xs x (find_at (λ (y : RowPlace). eqb (place_key y) n) xs ∙ at)

pub older_past : (n : ℕ) (xs : List RowPlace) → length xs ≤ position_or_len (λ (y : RowPlace). eqb (place_key y) n) xs → older_of n xs ≡ None
older_past n [] past = refl
older_past n (y ∷ ys) past = by_key (eqb y.row.depend n) refl (older_past n ys) where
  by_key : (b : Bool) → eqb y.row.depend n ≡ b → (length ys ≤ position_or_len (λ (z : RowPlace). eqb (place_key z) n) ys → older_of n ys ≡ None) → cond b y.older (older_of n ys) ≡ None
  by_key true is more = let first : position_or_len (λ (z : RowPlace). eqb (place_key z) n) (y ∷ ys) ≡ 0 = rw is refl in absurd (omega (arith, first, past))
  by_key false is more =
      let p = position_or_len (λ (z : RowPlace). eqb (place_key z) n) ys in
      let later : position_or_len (λ (z : RowPlace). eqb (place_key z) n) (y ∷ ys) ≡ suc p = rw is (omega arith) in
      more (omega (arith, later, past))
