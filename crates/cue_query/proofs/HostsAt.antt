-- The rows of hosts by their numbers.
use Rattle.std.proofs.Common.{◌≡◌, ℕ, zero, suc, ◌+◌, ◌<◌, List, [], ◌∷◌, length, Some, option_map, refl, ap, ◌∙◌, arith}
use Rattle.std.specs.List.{slice_get}
use Rattle.std.proofs.lemmas.Option.{none-some, same_Some}
use Rattle.farm_types.specs.declared.rows.HostRow.{HostRow}
use Rattle.farm_types.specs.Farm.{Farm}
use Rattle.farm_types.proofs.Lists.{slice_get_below}
use Rattle.farm_lines.specs.declared.list_row.ListRow.{ListRow}
use Rattle.farm_lines.specs.Lists.{host_row, host_rows}

module _ (f : Farm) where
  host_at : (hs : List HostRow) (place n : ℕ) (h : HostRow) → slice_get hs n ≡ Some h → slice_get (host_rows f place hs) n ≡ Some (host_row f (place + n) h)
  host_at [] place n h at = absurd (none-some h at)
  host_at (g ∷ hs) place zero h at =
      let here : place ≡ place + 0 = omega arith in
      ap (λ (k : ℕ). Some (host_row f k g)) here ∙ ap (λ (x : HostRow). Some (host_row f (place + 0) x)) (same_Some g h at)
  host_at (g ∷ hs) place (suc n) h at =
      let next : place + 1 + n ≡ place + suc n = omega arith in
      host_at hs (place + 1) n h at ∙ ap (λ (k : ℕ). Some (host_row f k h)) next

  count_from : (hs : List HostRow) (place : ℕ) → length (host_rows f place hs) ≡ length hs
  count_from [] place = refl
  count_from (h ∷ hs) place = ap suc (count_from hs (place + 1))

  pub count_is : length (host_rows f 0 f.hosts) ≡ length f.hosts
  count_is = count_from f.hosts 0

  pub row_there : (n : ℕ) → n < length f.hosts → (r : ListRow) × (slice_get (host_rows f 0 f.hosts) n ≡ Some r) × (option_map (host_row f n) (slice_get f.hosts n) ≡ Some r)
  row_there n within =
      let there = slice_get_below f.hosts n within in
      let same : 0 + n ≡ n = omega arith in
      (host_row f n there.0, host_at f.hosts 0 n there.0 there.1 ∙ ap (λ (k : ℕ). Some (host_row f k there.0)) same, ap (option_map (host_row f n)) there.1)
