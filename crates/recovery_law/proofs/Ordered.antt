-- Rows that come one after the other: the keys of each kind rise.
use Rattle.std.proofs.Common.{◌≡◌, ◌<◌, ◌≤◌, ℕ, suc, ◌+◌, true, List, [], ◌∷◌, ◌++◌, map, Some, refl, sym, subst, arith, inl, inr}
use Rattle.std.specs.Prelude.{slice_get}
use Rattle.farm_types.specs.Farm.{Farm}
use Rattle.farm_types.specs.Rising.{IsRising}
use Rattle.farm_rows.specs.declared.farm_row.FarmRow.{FarmRow}
use Rattle.farm_rows.specs.declared.farm_row.FarmRow.TheVariants as row
use Rattle.farm_rows.specs.Recovery.{StoredKey, is_before, key_of}
use Rattle.farm_rows.specs.Rows.{head_in, numbered, recorded_in, slot_rows}
use Rattle.recovery_law.proofs.RowKinds.{from_allocs, from_depends, from_hosts, from_jobs, from_layers, from_limits, from_met, from_shows, from_slots, from_subs}
use Rattle.farm_rows.proofs.RowOrder.{before_parts}

-- each row comes after the one before it, the first one after a key, and the last one has a key
abbrev pub Follow : StoredKey → List FarmRow → StoredKey → Type 0
Follow low [] high = low ≡ high
Follow low (r ∷ rs) high = (is_before low (key_of r) ≡ true) × Follow (key_of r) rs high

pub follow_more : (low : StoredKey) (rows : List FarmRow) (high : StoredKey) (r : FarmRow) → Follow low rows high → is_before high (key_of r) ≡ true → Follow low (rows ++ r ∷ []) (key_of r)
follow_more low [] high r f h = (subst (λ (k : StoredKey). is_before k (key_of r) ≡ true) (sym f) h, refl)
follow_more low (x ∷ xs) high r f h = (f.0, follow_more (key_of x) xs high r f.1 h)

follow_split : (low : StoredKey) (xs ys : List FarmRow) (high : StoredKey) → Follow low (xs ++ ys) high → (mid : StoredKey) × Follow low xs mid × Follow mid ys high
follow_split low [] ys high f = (low, refl, f)
follow_split low (x ∷ xs) ys high f =
    let rest = follow_split (key_of x) xs ys high f.1 in
    (rest.0, (f.0, rest.1), rest.2)

-- rows that come one after the other
abbrev pub Follows : List FarmRow → Type 0
Follows rows = (low : StoredKey) × (high : StoredKey) × Follow low rows high

first_of : (xs ys : List FarmRow) → Follows (xs ++ ys) → Follows xs
first_of xs ys f = let parts = follow_split f.0 xs ys f.1 f.2 in (f.0, parts.0, parts.1)

second_of : (xs ys : List FarmRow) → Follows (xs ++ ys) → Follows ys
second_of xs ys f = let parts = follow_split f.0 xs ys f.1 f.2 in (parts.0, f.1, parts.2)

-- the rows of each kind that have their numbers
pub record InOrder (f : Farm) : Type 0 where
  pub subs : Follows (map row.Sub f.subs)
  pub jobs : Follows (map row.Job f.jobs)
  pub layers : Follows (map row.Layer f.layers)
  pub depends : Follows (map row.Depend f.depends)
  pub met : Follows (map row.Met f.met)

pub in_order : (format : ℕ) (f : Farm) → Follows (recorded_in format f) → InOrder f
in_order format f all =
    let shows = second_of (row.Head (head_in format f) ∷ []) (from_shows f) all in
    let allocs = second_of (numbered row.Show 0 f.shows) (from_allocs f) shows in
    let subs = second_of (numbered row.Alloc 0 f.allocs) (from_subs f) allocs in
    let hosts = second_of (map row.Sub f.subs) (from_hosts f) subs in
    let jobs = second_of (numbered row.Host 0 f.hosts) (from_jobs f) hosts in
    let layers = second_of (map row.Job f.jobs) (from_layers f) jobs in
    let slots = second_of (map row.Layer f.layers) (from_slots f) layers in
    let depends = second_of (slot_rows 0 f.slots) (from_depends f) slots in
    record {
      subs = first_of (map row.Sub f.subs) (from_hosts f) subs;
      jobs = first_of (map row.Job f.jobs) (from_layers f) jobs;
      layers = first_of (map row.Layer f.layers) (from_slots f) layers;
      depends = first_of (map row.Depend f.depends) (from_met f) depends;
      met = first_of (map row.Met f.met) (from_limits f) (second_of (map row.Depend f.depends) (from_met f) depends);
    }

module _ {X : Type 0} (make : X → FarmRow) (kind : ℕ) (id : X → ℕ) (is : (x : X) → key_of (make x) ≡ (kind, id x)) (most : ℕ) where
  later_id : (low n : ℕ) (x : X) → is_before (kind, n) (key_of (make x)) ≡ true → n < id x
  later_id low n x h =
      elim (before_parts (kind, n) (kind, id x) (subst (λ (k : StoredKey). is_before (kind, n) k ≡ true) (is x) h)) [ inl less ↦ absurd (omega (arith, less)) | inr same ↦ same.1 ]

  rises_after : (n : ℕ) (xs : List X) (high : StoredKey) → n < most → ((k : ℕ) (x : X) → slice_get xs k ≡ Some x → id x < most) → Follow (kind, n) (map make xs) high → IsRising id (n + 1) xs most
  rises_after n [] high below each f = omega (arith, below)
  rises_after n (x ∷ xs) high below each f =
      (omega (arith, later_id 0 n x f.0), rises_after (id x) xs high (each 0 x refl) (λ k y at. each (suc k) y at) (subst (λ (key : StoredKey). Follow key (map make xs) high) (is x) f.1))

  -- within their bounds the numbers rise
  pub rises : (low : ℕ) (xs : List X) → low ≤ most → ((k : ℕ) (x : X) → slice_get xs k ≡ Some x → (low ≤ id x) × (id x < most)) → Follows (map make xs) → IsRising id low xs most
  rises low [] within each f = within
  rises low (x ∷ xs) within each f =
      ((each 0 x refl).0, rises_after (id x) xs f.1 (each 0 x refl).1 (λ k y at. (each (suc k) y at).1) (subst (λ (key : StoredKey). Follow key (map make xs) f.1) (is x) f.2.1))
