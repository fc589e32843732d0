-- Rows that are laid over a list: what is read at a place, one row more, and nothing laid over.
use Rattle.std.proofs.Common.{◌≡◌, ℕ, suc, zero, ◌+◌, false, nat_eq, List, [], ◌∷◌, length, Option, Some, None, refl, sym, ap, ◌∙◌, arith, option_map}
use Rattle.std.specs.List.{slice_get, slice_set}
use Rattle.std.proofs.lemmas.Bool.{ne_eqb}
use Rattle.std.proofs.lemmas.Option.{none-some}
use Rattle.farm_types.specs.declared.slot_row.SlotRow.{SlotRow}
use Rattle.farm_types.specs.Farm.{changed_at}
use Rattle.farm_types.proofs.ChangedLists.{changed_at_suc}
use Rattle.farm_draft.specs.Laid.{laid, laid_from, row_over}
use Rattle.farm_draft.specs.Rows.{put_row}
use Rattle.farm_draft.specs.declared.slot_change.SlotChange.{SlotChange}

module _ {P X : Type 0} (put : P → X → X) where
  -- ---- what is read at a place

  pub slice_get-laid_from : (n : ℕ) (over : ℕ → Option P) (xs : List X) (i : ℕ) → slice_get (laid_from put n over xs) i ≡ option_map (row_over put (over (n + i))) (slice_get xs i)
  slice_get-laid_from n over [] i = refl
  slice_get-laid_from n over (x ∷ xs) zero =
      let here : n ≡ n + 0 = omega arith in
      ap (λ (k : ℕ). Some (row_over put (over k) x)) here
  slice_get-laid_from n over (x ∷ xs) (suc i) =
      let next : suc n + i ≡ n + suc i = omega arith in
      slice_get-laid_from (suc n) over xs i ∙ ap (λ (k : ℕ). option_map (row_over put (over k)) (slice_get xs i)) next

  pub slice_get-laid : (over : ℕ → Option P) (xs : List X) (i : ℕ) → slice_get (laid put over xs) i ≡ option_map (row_over put (over i)) (slice_get xs i)
  slice_get-laid over xs i =
      let here : 0 + i ≡ i = omega arith in
      slice_get-laid_from 0 over xs i ∙ ap (λ (k : ℕ). option_map (row_over put (over k)) (slice_get xs i)) here

  -- the row with what is laid over it, where there is one
  pub laid_is : (over : ℕ → Option P) (xs : List X) (i : ℕ) (x : X) (o : Option P) → slice_get xs i ≡ Some x → over i ≡ o → slice_get (laid put over xs) i ≡ Some (row_over put o x)
  laid_is over xs i x o at is = slice_get-laid over xs i ∙ (ap (option_map (row_over put (over i))) at ∙ ap (λ (p : Option P). Some (row_over put p x)) is)

  under_none : (o : Option X) → option_map (row_over put None) o ≡ o
  under_none None = refl
  under_none (Some x) = refl

  pub laid_under : (over : ℕ → Option P) (xs : List X) (i : ℕ) → over i ≡ None → slice_get (laid put over xs) i ≡ slice_get xs i
  laid_under over xs i none = slice_get-laid over xs i ∙ (ap (λ (o : Option P). option_map (row_over put o) (slice_get xs i)) none ∙ under_none (slice_get xs i))

  pub laid_past : (over : ℕ → Option P) (xs : List X) (i : ℕ) → slice_get xs i ≡ None → slice_get (laid put over xs) i ≡ None
  laid_past over xs i past = slice_get-laid over xs i ∙ ap (option_map (row_over put (over i))) past

  -- ---- the part of a row that is laid over it

  module _ (seen : X → P) (kept : (p : P) (x : X) → seen (put p x) ≡ p) where
    over_by : (o : Option X) (p q : P) → option_map seen o ≡ Some q → option_map seen (option_map (put p) o) ≡ Some p
    over_by None p q at = absurd (none-some q at)
    over_by (Some x) p q at = ap Some (kept p x)

    pub seen_over : (over : ℕ → Option P) (xs : List X) (i : ℕ) (p q : P) → option_map seen (slice_get xs i) ≡ Some q → over i ≡ Some p → option_map seen (slice_get (laid put over xs) i) ≡ Some p
    seen_over over xs i p q at is =
        ap (option_map seen) (slice_get-laid over xs i)
        ∙ (ap (λ (o : Option P). option_map seen (option_map (row_over put o) (slice_get xs i))) is ∙ over_by (slice_get xs i) p q at)

  under_by : (seen : X → P) (o : Option X) → option_map seen (option_map (row_over put None) o) ≡ option_map seen o
  under_by seen None = refl
  under_by seen (Some x) = refl

  pub seen_under : (seen : X → P) (over : ℕ → Option P) (xs : List X) (i : ℕ) → over i ≡ None → option_map seen (slice_get (laid put over xs) i) ≡ option_map seen (slice_get xs i)
  seen_under seen over xs i is =
      ap (option_map seen) (slice_get-laid over xs i)
      ∙ (ap (λ (o : Option P). option_map seen (option_map (row_over put o) (slice_get xs i))) is ∙ under_by seen (slice_get xs i))

  past_by : (seen : X → P) (f : X → X) (o : Option X) → option_map seen o ≡ None → option_map seen (option_map f o) ≡ None
  past_by seen f None past = refl
  past_by seen f (Some x) past = absurd (none-some (seen x) (sym past))

  pub seen_past : (seen : X → P) (over : ℕ → Option P) (xs : List X) (i : ℕ) → option_map seen (slice_get xs i) ≡ None → option_map seen (slice_get (laid put over xs) i) ≡ None
  seen_past seen over xs i past = ap (option_map seen) (slice_get-laid over xs i) ∙ past_by seen (row_over put (over i)) (slice_get xs i) past

  -- ---- one row more

  apart : (n i : ℕ) → nat_eq n (n + suc i) ≡ false
  apart n i = ne_eqb n (n + suc i) (λ e. absurd (omega (arith, e)))

  -- the same rows over the list, where nothing else is laid over it
  pub laid_alike : (n : ℕ) (over next : ℕ → Option P) (xs : List X) → ((i : ℕ) → next (n + i) ≡ over (n + i)) → laid_from put n next xs ≡ laid_from put n over xs
  laid_alike n over next [] same = refl
  laid_alike n over next (x ∷ xs) same =
      let here : n + 0 ≡ n = omega arith in
      let first : next n ≡ over n = sym (ap next here) ∙ (same 0 ∙ ap over here) in
      let later : (i : ℕ) → next (suc n + i) ≡ over (suc n + i) =
      λ i. let e : n + suc i ≡ suc n + i = omega arith in sym (ap next e) ∙ (same (suc i) ∙ ap over e) in
      ap (λ (o : Option P). row_over put o x ∷ laid_from put (suc n) next xs) first ∙ ap (λ (ys : List X). row_over put (over n) x ∷ ys) (laid_alike (suc n) over next xs later)

  module _ (absorbs : (p q : P) (x : X) → put p (put q x) ≡ put p x) where
    put_over : (o : Option P) (p : P) (x : X) → put p x ≡ put p (row_over put o x)
    put_over None p x = refl
    put_over (Some q) p x = sym (absorbs p q x)

    put_from : (n : ℕ) (over next : ℕ → Option P) (xs : List X) (k : ℕ) (p : P) → next (n + k) ≡ Some p → ((j : ℕ) → nat_eq (n + k) j ≡ false → next j ≡ over j)
        → laid_from put n next xs ≡ changed_at (laid_from put n over xs) k (put p)
    put_from n over next [] k p is same = refl
    put_from n over next (x ∷ xs) zero p is same =
        let here : n + 0 ≡ n = omega arith in
        let first : next n ≡ Some p = sym (ap next here) ∙ is in
        let later : (i : ℕ) → next (suc n + i) ≡ over (suc n + i) =
        λ i. same (suc n + i) (let e : n + suc i ≡ suc n + i = omega arith in ap (λ (m : ℕ). nat_eq (n + 0) m) (sym e) ∙ (ap (λ (m : ℕ). nat_eq m (n + suc i)) here ∙ apart n i)) in
        ap (λ (o : Option P). row_over put o x ∷ laid_from put (suc n) next xs) first
        ∙ (ap (λ (ys : List X). put p x ∷ ys) (laid_alike (suc n) over next xs later) ∙ ap (λ (y : X). y ∷ laid_from put (suc n) over xs) (put_over (over n) p x))
    put_from n over next (x ∷ xs) (suc k) p is same =
        let there : n + suc k ≡ suc n + k = omega arith in
        let first : next n ≡ over n = same n (ne_eqb (n + suc k) n (λ e. absurd (omega (arith, e)))) in
        let rest =
        put_from (suc n) over next xs k p (sym (ap next there) ∙ is) (λ j off. same j (ap (λ (m : ℕ). nat_eq m j) there ∙ off)) in
        ap (λ (o : Option P). row_over put o x ∷ laid_from put (suc n) next xs) first
        ∙ (ap (λ (ys : List X). row_over put (over n) x ∷ ys) rest ∙ sym (changed_at_suc (row_over put (over n) x) (laid_from put (suc n) over xs) k (put p)))

    -- with one row more laid over the list, that row is put in
    pub laid_put : (over next : ℕ → Option P) (xs : List X) (k : ℕ) (p : P) → next k ≡ Some p → ((j : ℕ) → nat_eq k j ≡ false → next j ≡ over j) → laid put next xs ≡ changed_at (laid put over xs) k (put p)
    laid_put over next xs k p is same =
        let here : 0 + k ≡ k = omega arith in
        put_from 0 over next xs k p (ap next here ∙ is) (λ j off. same j (sym (ap (λ (m : ℕ). nat_eq m j) here) ∙ off))

  -- ---- the whole list

  pub laid_none : (n : ℕ) (over : ℕ → Option P) (xs : List X) → ((j : ℕ) → over j ≡ None) → laid_from put n over xs ≡ xs
  laid_none n over [] none = refl
  laid_none n over (x ∷ xs) none =
      ap (λ (o : Option P). row_over put o x ∷ laid_from put (suc n) over xs) (none n) ∙ ap (λ (ys : List X). x ∷ ys) (laid_none (suc n) over xs none)

  pub length-laid : (n : ℕ) (over : ℕ → Option P) (xs : List X) → length (laid_from put n over xs) ≡ length xs
  length-laid n over [] = refl
  length-laid n over (x ∷ xs) = ap suc (length-laid (suc n) over xs)

-- a row that takes another one's place is set
pub changed_at-row : (slots : List SlotRow) (k : ℕ) (c : SlotChange) → changed_at slots k (put_row c) ≡ slice_set slots k c.row
changed_at-row [] k c = refl
changed_at-row (s ∷ ss) zero c = refl
changed_at-row (s ∷ ss) (suc k) c = changed_at_suc s ss k (put_row c) ∙ ap (λ (ys : List SlotRow). s ∷ ys) (changed_at-row ss k c)
