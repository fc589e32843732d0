-- The numbers of subscriptions, and which have none.
use Rattle.std.proofs.Common.{◌≡◌, ◌≤◌, ◌<◌, ◌⊎◌, ◌∙◌, ℕ, Bool, true, false, ◌||◌, eqb, List, [], ◌∷◌, is_some, inl, inr, refl, sym, arith}
use Rattle.std.specs.List.{find, list_all, list_any}
use Rattle.std.proofs.lemmas.Bool.{cases_lt, eqb-true, false≢true, ltb-true}
use Rattle.farm_types.specs.declared.limits.TheConstants.{SUB_NUMBERS}
use Rattle.farm_types.specs.declared.rows.SubRow.{SubRow}
use Rattle.farm_types.proofs.Lists.{and_both}
use Rattle.row_index.specs.Index.{is_numbered_sub}
use Rattle.row_index.proofs.Frames.{some_found}

other_number : (n m : ℕ) (b : Bool) → eqb m n ≡ b → SUB_NUMBERS ≤ n → m < SUB_NUMBERS → b ≡ false
other_number n m true same past below = absurd (omega (arith, past, below, eqb-true m n same))
other_number n m false same past below = refl

-- no subscription has a number past those of shows and allocations
pub none_past : (n : ℕ) (subs : List SubRow) → SUB_NUMBERS ≤ n → list_all is_numbered_sub subs ≡ true → list_any (λ (s : SubRow). eqb s.sub n) subs ≡ false
none_past n [] past numbered = refl
none_past n (s ∷ ss) past numbered =
    let parts = and_both (is_numbered_sub s) (list_all is_numbered_sub ss) numbered in
    let other = other_number n s.sub (eqb s.sub n) refl past (ltb-true s.sub SUB_NUMBERS parts.0) in
    (λ i. other i || none_past n ss past parts.1 i)

-- the number of one that is there
pub sub_below : (n : ℕ) (subs : List SubRow) → is_some (find (λ (s : SubRow). eqb s.sub n) subs) ≡ true → list_all is_numbered_sub subs ≡ true → n < SUB_NUMBERS
sub_below n subs there numbered = either (cases_lt n SUB_NUMBERS)
  where
    either : (n < SUB_NUMBERS) ⊎ (SUB_NUMBERS ≤ n) → n < SUB_NUMBERS
    either (inl below) = below
    either (inr past) = absurd (false≢true (sym (none_past n subs past numbered) ∙ (sym (some_found (λ (s : SubRow). eqb s.sub n) subs) ∙ there)))
