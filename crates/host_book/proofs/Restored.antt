-- The names of given rows, of which none stands twice.
use Rattle.std.proofs.Common.{◌≡◌, ℕ, zero, suc, Bool, false, ◌||◌, List, [], ◌∷◌, map, take, Some, refl, ap, subst, ◌∙◌}
use Rattle.std.specs.List.{list_any, slice_get, AllByRecursion}
use Rattle.std.specs.Str.{bytes_eq}
use Rattle.std.specs.Cmp.Lexicographic.{nat_list_eq_equiv}
use Rattle.std.proofs.lemmas.Map.Keys.{IsDistinct-head, IsDistinct-tail}
use Rattle.std.proofs.lemmas.Option.{none-some, same_Some}
use Rattle.farm_types.specs.declared.rows.HostRow.{HostRow}
use Rattle.farm_types.specs.Kept.{AllDiffer, host_label}
use Rattle.host_book.specs.Inside.{name_of}

each_at : (P : List ℕ → Type 0) (rows : List HostRow) (i : ℕ) (row : HostRow) → AllByRecursion P (map host_label rows) → slice_get rows i ≡ Some row → P row.name
each_at P [] i row each at = absurd (none-some row at)
each_at P (r ∷ rs) zero row each at = subst (λ (x : HostRow). P x.name) (same_Some r row at) each.0
each_at P (r ∷ rs) (suc i) row each at = each_at P rs i row each.1 at

neither : (a b : Bool) → a ≡ false → b ≡ false → (a || b) ≡ false
neither a b first second = rw (first, second) refl

-- the name of a row is none of the names before it
earlier_differ : (rows : List HostRow) (i : ℕ) (row : HostRow) → AllDiffer host_label rows → slice_get rows i ≡ Some row → list_any (bytes_eq row.name) (map name_of (take i rows)) ≡ false
earlier_differ [] i row differ at = absurd (none-some row at)
earlier_differ (r ∷ rs) zero row differ at = refl
earlier_differ (r ∷ rs) (suc i) row differ at =
    let apart = each_at (λ (name : List ℕ). bytes_eq r.name name ≡ false) rs i row (IsDistinct-head bytes_eq r.name (map host_label rs) differ) at in
    neither (bytes_eq row.name r.name) (list_any (bytes_eq row.name) (map name_of (take i rs)))
    (nat_list_eq_equiv.symm row.name r.name ∙ apart)
    (earlier_differ rs i row (IsDistinct-tail bytes_eq r.name (map host_label rs) differ) at)

module _ {K : Type 0} (text : K → List ℕ) where
  any_text : (test : List ℕ → Bool) (keys : List K) → list_any (λ k. test (text k)) keys ≡ list_any test (map text keys)
  any_text test [] = refl
  any_text test (k ∷ ks) = ap (λ b. test (text k) || b) (any_text test ks)

  -- where the keys are the names so far, the next one is new
  pub next_unnamed : (keys : List K) (rows : List HostRow) (i : ℕ) (row : HostRow) (name : List ℕ) → AllDiffer host_label rows → slice_get rows i ≡ Some row → name ≡ row.name
      → map text keys ≡ map name_of (take i rows) → list_any (λ k. bytes_eq name (text k)) keys ≡ false
  next_unnamed keys rows i row name differ at is named =
      any_text (bytes_eq name) keys ∙ (ap (list_any (bytes_eq name)) named ∙ (ap (λ (ns : List ℕ). list_any (bytes_eq ns) (map name_of (take i rows))) is ∙ earlier_differ rows i row differ at))
