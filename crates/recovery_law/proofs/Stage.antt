-- Rows of one kind that fit one after the other: from the farm that those before them say they lead to the farm with all of them.
use Rattle.std.proofs.Common.{◌≡◌, ◌≤◌, ◌<◌, ℕ, ◌+◌, Bool, true, cond, List, [], ◌∷◌, ◌++◌, length, Option, Some, Result, Err, refl, ap, sym, subst, ◌∙◌, arith}
use Rattle.std.proofs.lemmas.Bool.{eq-eqb, lt-ltb, or_left, or_right}
use Rattle.std.proofs.lemmas.List.{append-nil, append_assoc, length_push}
use Rattle.std.specs.Cmp.Derive.{both_true}
use Rattle.farm_types.specs.Farm.{Farm}
use Rattle.farm_rows.specs.declared.farm_row.FarmRow.{FarmRow}
use Rattle.farm_rows.specs.Recovery.{Said, StoredKey, comes_after, farm_with, format_after, key_of, row_fits, with_stored}
use Rattle.farm_rows.specs.Rows.{numbered}

-- ---- keys

-- each row of a later kind comes after the last one
abbrev pub IsPast : Option StoredKey → ℕ → Type 0
IsPast last kind = (k n : ℕ) → kind < k → comes_after last (k, n) ≡ true

-- and so does each of the kind from that id on
abbrev pub IsFrom : Option StoredKey → ℕ → ℕ → Type 0
IsFrom last kind low = (n : ℕ) → low ≤ n → comes_after last (kind, n) ≡ true

pub past_key : (kind id : ℕ) → IsPast (Some (kind, id)) kind
past_key kind id k n h = or_left _ _ (lt-ltb kind k h)

pub from_key : (kind id : ℕ) → IsFrom (Some (kind, id)) kind (id + 1)
from_key kind id n h = or_right _ _ (both_true (eq-eqb kind kind refl) (lt-ltb id n (omega (arith, h))))

-- ---- one row

pub row_next : (format : ℕ) (last : Option StoredKey) (f : Farm) (r : FarmRow) (rs : List FarmRow) → comes_after last (key_of r) ≡ true → row_fits format f r ≡ true
    → farm_with format last f (r ∷ rs) ≡ farm_with (format_after format r) (Some (key_of r)) (with_stored f r) rs
row_next format last f r rs after fits = ap (λ (b : Bool). cond b (farm_with (format_after format r) (Some (key_of r)) (with_stored f r) rs) (Err (key_of r))) (both_true after fits)

-- ---- rows of a kind

-- the ids rise from a bound, the first item at a place
abbrev pub AreRising : {X : Type 0} → (ℕ → X → ℕ) → ℕ → ℕ → List X → Type 0
AreRising id low place [] = Unit {0}
AreRising id low place (x ∷ xs) = (low ≤ id place x) × AreRising id (id place x + 1) (place + 1) xs

-- a kind of row: its rows, their ids, and the farm with the first of its items
pub record Kind (X : Type 0) : Type 0 where
  pub kind : ℕ
  pub make : ℕ → X → FarmRow
  pub id : ℕ → X → ℕ
  pub farm : List X → Farm

-- in a store of that format
pub record Stage {X : Type 0} (format : ℕ) (k : Kind X) (all : List X) : Type 0 where
  pub keys : (n : ℕ) (x : X) → key_of (k.make n x) ≡ (k.kind, k.id n x)
  pub formats : (n : ℕ) (x : X) → format_after format (k.make n x) ≡ format
  pub adds : (done : List X) (x : X) → with_stored (k.farm done) (k.make (length done) x) ≡ k.farm (done ++ x ∷ [])
  pub fits : (done : List X) (x : X) (rest : List X) → done ++ x ∷ rest ≡ all → row_fits format (k.farm done) (k.make (length done) x) ≡ true

module _ {X : Type 0} (format : ℕ) (k : Kind X) (all : List X) (stage : Stage format k all) (more : List FarmRow) (said : Result Said StoredKey) (next : (last : Option StoredKey) → IsPast last k.kind → farm_with format last (k.farm all) more ≡ said) where
  staged : (last : Option StoredKey) (low : ℕ) (done rest : List X) → done ++ rest ≡ all → AreRising k.id low (length done) rest → IsPast last k.kind → IsFrom last k.kind low
      → farm_with format last (k.farm done) (numbered k.make (length done) rest ++ more) ≡ said
  staged last low done [] is rise past from = ap (λ (xs : List X). farm_with format last (k.farm xs) more) (sym (append-nil done) ∙ is) ∙ next last past
  staged last low done (x ∷ xs) is rise past from =
      let row = k.make (length done) x in
      let key = stage.keys (length done) x in
      let after = subst (λ (key : StoredKey). comes_after last key ≡ true) (sym key) (from (k.id (length done) x) rise.0) in
      let longer = length_push done x in
      let later = staged (Some (k.kind, k.id (length done) x)) (k.id (length done) x + 1) (done ++ x ∷ []) xs (append_assoc done (x ∷ []) xs ∙ is)
      (subst (λ (n : ℕ). AreRising k.id (k.id (length done) x + 1) n xs) (sym longer) rise.1) (past_key k.kind (k.id (length done) x)) (from_key k.kind (k.id (length done) x)) in
      row_next format last (k.farm done) row (numbered k.make (length done + 1) xs ++ more) after (stage.fits done x xs is)
      ∙ ap (λ (n : ℕ). farm_with n (Some (key_of row)) (with_stored (k.farm done) row) (numbered k.make (length done + 1) xs ++ more)) (stage.formats (length done) x)
      ∙ ap (λ (key : StoredKey). farm_with format (Some key) (with_stored (k.farm done) row) (numbered k.make (length done + 1) xs ++ more)) key
      ∙ ap (λ (f : Farm). farm_with format (Some (k.kind, k.id (length done) x)) f (numbered k.make (length done + 1) xs ++ more)) (stage.adds done x)
      ∙ ap (λ (n : ℕ). farm_with format (Some (k.kind, k.id (length done) x)) (k.farm (done ++ x ∷ [])) (numbered k.make n xs ++ more)) (sym longer)
      ∙ later

  -- all of them, after rows of earlier kinds
  pub all_staged : (last : Option StoredKey) (low before : ℕ) → before < k.kind → AreRising k.id low 0 all → IsPast last before → farm_with format last (k.farm []) (numbered k.make 0 all ++ more) ≡ said
  all_staged last low before h rise past = staged last low [] all refl rise (λ kind n later. past kind n (omega (arith, h, later))) (λ n from. past k.kind n h)

-- ---- rows by their places, and by keys that rise

pub by_places : {X : Type 0} (place : ℕ) (xs : List X) → AreRising (λ (n : ℕ) (x : X). n) place place xs
by_places place [] = tt
by_places place (x ∷ xs) = (omega arith, by_places (place + 1) xs)
