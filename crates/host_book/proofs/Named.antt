-- The index of a name is the number of the host of that name.
use Rattle.std.proofs.Common.{◌≡◌, ℕ, ◌+◌, List, [], ◌∷◌, map, Bool, true, false, cond, ◌||◌, Some, None, refl, ap, ◌∙◌}
use Rattle.std.specs.List.{position, position_from, list_any, AllZip}
use Rattle.std.specs.Str.{bytes_eq}
use Rattle.std.specs.Cmp.Lexicographic.{nat_list_eq_equiv}
use Rattle.std.proofs.lemmas.Iterator.Adapters.{position_from-zero}
use Rattle.farm_types.specs.declared.rows.HostRow.{HostRow}
use Rattle.farm_types.specs.Farm.{host_from}
use Rattle.host_book.specs.Inside.{name_of}

module _ {K : Type 0} (text : K → List ℕ) where
  named_from : (name : List ℕ) (place : ℕ) (keys : List K) (rows : List HostRow) → map text keys ≡ map name_of rows → position_from (λ k. bytes_eq name (text k)) place keys ≡ host_from place name rows
  named_from name place [] [] same = refl
  named_from name place [] (row ∷ rows) same = absurd (cc)
  named_from name place (k ∷ ks) [] same = absurd (cc)
  named_from name place (k ∷ ks) (row ∷ rows) same =
      let first : text k ≡ row.name = cc in
      let others : map text ks ≡ map name_of rows = cc in
      let test : bytes_eq name (text k) ≡ bytes_eq row.name name = ap (bytes_eq name) first ∙ nat_list_eq_equiv.symm name row.name in
      let rest = named_from name (place + 1) ks rows others in
      λ j. cond (test j) (Some place) (rest j)

  -- where the names stand in the order of the rows
  pub named : (name : List ℕ) (keys : List K) (rows : List HostRow) → map text keys ≡ map name_of rows → position (λ k. bytes_eq name (text k)) keys ≡ host_from 0 name rows
  named name keys rows same = position_from-zero (λ k. bytes_eq name (text k)) keys ∙ named_from name 0 keys rows same

  absent_from : (test : K → Bool) (place : ℕ) (keys : List K) → position_from test place keys ≡ None → list_any test keys ≡ false
  absent_from test place [] none = refl
  absent_from test place (k ∷ ks) none = by (test k) none (absent_from test (place + 1) ks)
    where
      by : (b : Bool) → cond b (Some place) (position_from test (place + 1) ks) ≡ None → (position_from test (place + 1) ks ≡ None → list_any test ks ≡ false) → (b || list_any test ks) ≡ false
      by true found rest = absurd (cc)
      by false found rest = rest found

  -- the name of no host is no key
  pub unnamed : (name : List ℕ) (keys : List K) (rows : List HostRow) → map text keys ≡ map name_of rows → host_from 0 name rows ≡ None → list_any (λ k. bytes_eq name (text k)) keys ≡ false
  unnamed name keys rows same none = absent_from (λ k. bytes_eq name (text k)) 0 keys (named_from name 0 keys rows same ∙ none)

  -- equal texts, one by one
  pub map-copied : (keys copies : List K) → AllZip (λ (s t : K). text t ≡ text s) keys copies → map text copies ≡ map text keys
  map-copied [] [] zip = refl
  map-copied [] (y ∷ ys) zip = absurd zip
  map-copied (x ∷ xs) [] zip = absurd zip
  map-copied (x ∷ xs) (y ∷ ys) zip = λ j. zip.0 j ∷ map-copied xs ys zip.1 j
