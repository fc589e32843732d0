-- One row that is put in, or two of different keys, name exactly what they change.
use Rattle.std.proofs.Common.{◌≡◌, ◌∙◌, ℕ, zero, suc, Bool, true, false, ◌||◌, List, [], ◌∷◌, Option, Some, refl, sym, ap, subst}
use Rattle.std.specs.Prelude.{if◌then◌else◌}
use Rattle.std.specs.List.{slice_get}
use Rattle.std.proofs.lemmas.Bool.{false≢true}
use Rattle.std.proofs.lemmas.Option.{none-some, same_Some}
use Rattle.farm_types.specs.Farm.{Farm}
use Rattle.farm_rows.specs.declared.farm_row.FarmRow.{FarmRow}
use Rattle.farm_rows.specs.declared.farm_row.FarmRow.TheVariants as row
use Rattle.farm_rows.specs.declared.head_row.HeadRow.{HeadRow}
use Rattle.farm_rows.specs.declared.row_change.RowChange.{RowChange}
use Rattle.farm_rows.specs.declared.row_change.RowChange.TheVariants.{Put}
use Rattle.farm_rows.specs.declared.row_key.RowKey.{RowKey}
use Rattle.farm_rows.specs.declared.row_key.RowKey.TheVariants as key
use Rattle.farm_rows.specs.Changes.{Differs, NamesExactly, change_key, is_key, row_after, row_at, row_by, row_key}
use Rattle.farm_rows.proofs.MadeRows.{is_key-same, is_key-true}

-- ---- a row

put_in : (p : FarmRow) (old : Option FarmRow) → row_by (Put p) (row_key p) old ≡ Some p
put_in p old = ap (λ (b : Bool). if b then Some p else old) (is_key-same (row_key p))

put_other : (p : FarmRow) (k : RowKey) (old : Option FarmRow) → is_key (row_key p) k ≡ false → row_by (Put p) k old ≡ old
put_other p k old other = ap (λ (b : Bool). if b then Some p else old) other

neither : (a b : Bool) → (a || b) ≡ false → (a ≡ false) × (b ≡ false)
neither true b h = absurd (false≢true (sym h))
neither false b h = (refl, h)

-- the row of the key is another one
module _ (f g : Farm) (p : FarmRow) (other : row_at f (row_key p) ≡ Some p → ⊥) (now : row_at g (row_key p) ≡ Some p) where
  differs : (c : RowChange) → Put p ≡ c → Differs c (row_at f (change_key c)) (row_at g (change_key c))
  differs c is = subst (λ (d : RowChange). Differs d (row_at f (change_key d)) (row_at g (change_key d))) is (now, other)

-- ---- one row

module _ (f g : Farm) (p : FarmRow) (made : (k : RowKey) → row_at g k ≡ row_after (Put p ∷ []) k (row_at f k)) (other : row_at f (row_key p) ≡ Some p → ⊥) where
  one_each : (n : ℕ) (c : RowChange) → slice_get (Put p ∷ []) n ≡ Some c → Differs c (row_at f (change_key c)) (row_at g (change_key c))
  one_each zero c at = differs f g p other (made (row_key p) ∙ put_in p (row_at f (row_key p))) c (same_Some (Put p) c at)
  one_each (suc n) c at = absurd (none-some c at)

  one_once : (n m : ℕ) (c d : RowChange) → slice_get (Put p ∷ []) n ≡ Some c → slice_get (Put p ∷ []) m ≡ Some d → is_key (change_key c) (change_key d) ≡ true → n ≡ m
  one_once zero zero c d at too same = refl
  one_once zero (suc m) c d at too same = absurd (none-some d too)
  one_once (suc n) m c d at too same = absurd (none-some c at)

  pub names_one : NamesExactly f g (Put p ∷ [])
  names_one =
      record {
        rest = λ k unnamed. made k ∙ put_other p k (row_at f k) (neither (is_key (row_key p) k) false unnamed).0;
        each = one_each;
        once = one_once;
      }

-- ---- two rows

module _ (f g : Farm) (p q : FarmRow) (apart : is_key (row_key p) (row_key q) ≡ false) (apart_too : is_key (row_key q) (row_key p) ≡ false)
    (made : (k : RowKey) → row_at g k ≡ row_after (Put p ∷ Put q ∷ []) k (row_at f k)) (other : row_at f (row_key p) ≡ Some p → ⊥) (other_too : row_at f (row_key q) ≡ Some q → ⊥)
  where
    abbrev both : List RowChange
    both = Put p ∷ Put q ∷ []

    two_each : (n : ℕ) (c : RowChange) → slice_get both n ≡ Some c → Differs c (row_at f (change_key c)) (row_at g (change_key c))
    two_each zero c at =
        let now = made (row_key p) ∙ (put_other q (row_key p) (row_by (Put p) (row_key p) (row_at f (row_key p))) apart_too ∙ put_in p (row_at f (row_key p))) in
        differs f g p other now c (same_Some (Put p) c at)
    two_each (suc zero) c at = differs f g q other_too (made (row_key q) ∙ put_in q (row_by (Put p) (row_key q) (row_at f (row_key q)))) c (same_Some (Put q) c at)
    two_each (suc (suc n)) c at = absurd (none-some c at)

    two_once : (n m : ℕ) (c d : RowChange) → slice_get both n ≡ Some c → slice_get both m ≡ Some d → is_key (change_key c) (change_key d) ≡ true → n ≡ m
    two_once zero zero c d at too same = refl
    two_once (suc zero) (suc zero) c d at too same = refl
    two_once zero (suc zero) c d at too same =
        let keys : is_key (change_key c) (change_key d) ≡ false =
        ap (λ (x : RowChange). is_key (change_key x) (change_key d)) (sym (same_Some (Put p) c at)) ∙ (ap (λ (x : RowChange). is_key (row_key p) (change_key x)) (sym (same_Some (Put q) d too)) ∙ apart)
        in
        absurd (false≢true (sym keys ∙ same))
    two_once (suc zero) zero c d at too same =
        let keys : is_key (change_key c) (change_key d) ≡ false =
        ap (λ (x : RowChange). is_key (change_key x) (change_key d)) (sym (same_Some (Put q) c at)) ∙ (ap (λ (x : RowChange). is_key (row_key q) (change_key x)) (sym (same_Some (Put p) d too)) ∙ apart_too)
        in
        absurd (false≢true (sym keys ∙ same))
    two_once (suc (suc n)) m c d at too same = absurd (none-some c at)
    two_once zero (suc (suc m)) c d at too same = absurd (none-some d too)
    two_once (suc zero) (suc (suc m)) c d at too same = absurd (none-some d too)

    pub names_two : NamesExactly f g both
    names_two =
        record {
          rest = λ k unnamed.
              let first = neither (is_key (row_key p) k) (is_key (row_key q) k || false) unnamed in
              let second = neither (is_key (row_key q) k) false first.1 in
              made k ∙ (put_other q k (row_by (Put p) k (row_at f k)) second.0 ∙ put_other p k (row_at f k) first.0);
          each = two_each;
          once = two_once;
        }

-- ---- the farm's own row as it stands

module _ (f : Farm) (p : FarmRow) (head : HeadRow) (apart : is_key (row_key p) key.Head ≡ false) (stands : row_at f key.Head ≡ Some (row.Head head)) where
  without_by : (k : RowKey) (b : Bool) → is_key key.Head k ≡ b → row_after (Put p ∷ Put (row.Head head) ∷ []) k (row_at f k) ≡ row_after (Put p ∷ []) k (row_at f k)
  without_by k true is =
      subst (λ (j : RowKey). row_after (Put p ∷ Put (row.Head head) ∷ []) j (row_at f j) ≡ row_after (Put p ∷ []) j (row_at f j)) (is_key-true key.Head k is)
      (sym (put_other p key.Head (row_at f key.Head) apart ∙ stands))
  without_by k false is = put_other (row.Head head) k (row_by (Put p) k (row_at f k)) is

  -- it may be left out
  pub without_head : (k : RowKey) → row_after (Put p ∷ Put (row.Head head) ∷ []) k (row_at f k) ≡ row_after (Put p ∷ []) k (row_at f k)
  without_head k = without_by k (is_key key.Head k) refl
