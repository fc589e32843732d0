-- The depends in which a job waits by their places: each is found by its number.
use Rattle.std.specs.Bool.{◌==◌}
use Rattle.std.proofs.Common.{◌≡◌, ℕ, zero, suc, ◌+◌, Bool, true, false, cond, eqb, List, [], ◌∷◌, length, map, Option, None, Some, option_map, refl, sym, ap, ◌∙◌, arith}
use Rattle.std.specs.List.{filter, find, slice_get}
use Rattle.std.proofs.lemmas.Bool.{eq-eqb, ne_eqb}
use Rattle.std.proofs.lemmas.List.{length-map}
use Rattle.std.proofs.lemmas.Option.{none-some, same_Some, slice_get-map}
use Rattle.farm_types.specs.declared.depend.DependRow.{DependRow}
use Rattle.farm_types.specs.DependActs.{depend_at}
use Rattle.farm_types.specs.Farm.{Farm}
use Rattle.farm_types.specs.Finish.{waits_by}
use Rattle.farm_types.specs.Rising.{IsRising, depend_key}
use Rattle.depend_law.proofs.Among.{kept_from, rising_above}
use Rattle.farm_lines.specs.declared.list_row.ListRow.{ListRow}
use Rattle.farm_lines.specs.Lists.{depend_row, depend_rows}
use Rattle.cue_query.proofs.Listed.{item_at}

found_key : (low : ℕ) (ds : List DependRow) (high n : ℕ) (d : DependRow) → IsRising depend_key low ds high → slice_get ds n ≡ Some d → find (λ (e : DependRow). e.depend == d.depend) ds ≡ Some d
found_key low [] high n d rise at = absurd (none-some d at)
found_key low (e ∷ ds) high zero d rise at =
    let same = same_Some e d at in
    let itself : eqb e.depend d.depend ≡ true = eq-eqb e.depend d.depend (ap depend_key same) in
    ap (λ (b : Bool). cond b (Some e) (find (λ (g : DependRow). g.depend == d.depend) ds)) itself ∙ ap (λ (g : DependRow). Some g) same
found_key low (e ∷ ds) high (suc n) d rise at =
    let above = rising_above depend_key (e.depend + 1) ds high n d rise.1 at in
    let other : eqb e.depend d.depend ≡ false = ne_eqb e.depend d.depend (λ is. absurd (omega (arith, above, is))) in
    ap (λ (b : Bool). cond b (Some e) (find (λ (g : DependRow). g.depend == d.depend) ds)) other ∙ found_key (e.depend + 1) ds high n d rise.1 at

module _ (f : Farm) (job high : ℕ) (rise : IsRising depend_key 1 f.depends high) (numbers : List ℕ) (are : numbers ≡ map depend_key (filter (waits_by job) f.depends)) where
  pub count_is : length (depend_rows f job) ≡ length numbers
  count_is =
      length-map (filter (waits_by job) f.depends) depend_row
      ∙ sym (ap (λ (ns : List ℕ). length ns) are ∙ length-map (filter (waits_by job) f.depends) depend_key)

  pub row_there : (n number : ℕ) → slice_get numbers n ≡ Some number → (r : ListRow) × (slice_get (depend_rows f job) n ≡ Some r) × (option_map depend_row (depend_at f number) ≡ Some r)
  row_there n number at =
      by (slice_get (filter (waits_by job) f.depends) n) refl
      (sym (slice_get-map depend_key (filter (waits_by job) f.depends) n) ∙ (ap (λ (ns : List ℕ). slice_get ns n) (sym are) ∙ at))
    where
      by : (o : Option DependRow) → slice_get (filter (waits_by job) f.depends) n ≡ o → option_map depend_key o ≡ Some number
          → (r : ListRow) × (slice_get (depend_rows f job) n ≡ Some r) × (option_map depend_row (depend_at f number) ≡ Some r)
      by None is key = absurd (none-some number key)
      by (Some d) is key =
          let there = kept_from (waits_by job) f.depends n d is in
          let found = found_key 1 f.depends high there.0.0 d rise there.0.1 in
          let same : d.depend ≡ number = same_Some d.depend number key in
          (depend_row d, item_at depend_row (filter (waits_by job) f.depends) n d is, ap (option_map depend_row) (ap (depend_at f) (sym same) ∙ found))
