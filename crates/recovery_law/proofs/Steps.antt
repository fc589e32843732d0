-- Rows that say a farm, one after the other: what each row keeps holds of the farm that all rows say.
use Rattle.std.proofs.Common.{◌≡◌, ℕ, Bool, true, false, cond, ◌&&◌, List, [], ◌∷◌, ◌++◌, Option, Some, None, refl, sym, subst, append-nil}
use Rattle.std.specs.Prelude.{Result, Ok, Err}
use Rattle.std.proofs.lemmas.List.{append_assoc}
use Rattle.farm_types.specs.Farm.{Farm}
use Rattle.farm_types.proofs.Lists.{and_both}
use Rattle.farm_rows.specs.declared.farm_row.FarmRow.{FarmRow}
use Rattle.farm_rows.specs.Recovery.{Said, StoredKey, comes_after, end_fault, ended, farm_with, format_after, key_of, row_fits, with_stored}

pub err_ok : {X : Type 0} (key : StoredKey) (x : X) → ◌≡◌ {A = Result X StoredKey} (Err key) (Ok x) → ⊥
err_ok key x e = cc

ok_same : {X : Type 0} (x y : X) → ◌≡◌ {A = Result X StoredKey} (Ok x) (Ok y) → x ≡ y
ok_same x y e = cc

ended_by : (format : ℕ) (o : Option StoredKey) (f : Farm) (s : Said) → end_fault f ≡ o → ended format f o ≡ Ok s → (record { farm = f; format = format } ≡ s) × (end_fault f ≡ None)
ended_by format None f s is e = (ok_same (record { farm = f; format = format }) s e, is)
ended_by format (Some key) f s is e = absurd (err_ok key s e)

pub taken_by : (b : Bool) (key : StoredKey) (rest : Result Said StoredKey) (s : Said) → cond b rest (Err key) ≡ Ok s → (b ≡ true) × (rest ≡ Ok s)
taken_by true key rest s e = (refl, e)
taken_by false key rest s e = absurd (err_ok key s e)

module _ (P : ℕ → Option StoredKey → Farm → List FarmRow → Type 0) where
  -- what a row keeps that comes after the last one and fits
  abbrev pub IsStep : Type 0
  IsStep =
      (format : ℕ) (last : Option StoredKey) (f : Farm) (done : List FarmRow) (r : FarmRow) → P format last f done → comes_after last (key_of r) ≡ true → row_fits format f r ≡ true
      → P (format_after format r) (Some (key_of r)) (with_stored f r) (done ++ r ∷ [])

  -- holds of the farm that rows say, in which nothing is at fault
  pub all_rows : IsStep → (format : ℕ) (last : Option StoredKey) (f : Farm) (done rows : List FarmRow) (s : Said) → P format last f done → farm_with format last f rows ≡ Ok s
      → (end : Option StoredKey) × P s.format end s.farm (done ++ rows) × (end_fault s.farm ≡ None)
  all_rows step format last f done [] s p e =
      let at_end = ended_by format (end_fault f) f s refl e in
      let whole : P format last f (done ++ []) = subst (P format last f) (sym (append-nil done)) p in
      (last, subst (λ (t : Said). P t.format last t.farm (done ++ [])) at_end.0 whole, subst (λ (t : Said). end_fault t.farm ≡ None) at_end.0 at_end.1)
  all_rows step format last f done (r ∷ rows) s p e =
      let next = format_after format r in
      let taken = taken_by (comes_after last (key_of r) && row_fits format f r) (key_of r) (farm_with next (Some (key_of r)) (with_stored f r) rows) s e in
      let both = and_both (comes_after last (key_of r)) (row_fits format f r) taken.0 in
      let all = all_rows step next (Some (key_of r)) (with_stored f r) (done ++ r ∷ []) rows s (step format last f done r p both.0 both.1) taken.1 in
      (all.0, subst (P s.format all.0 s.farm) (append_assoc done (r ∷ []) rows) all.1, all.2)
