-- The lists of jobs, layers and slots of all jobs, as the jobs hold them.
use Rattle.std.proofs.Common.{◌≡◌, ℕ, suc, zero, ◌+◌, ◌<◌, ◌&&◌, Bool, true, false, cond, eqb, List, [], ◌∷◌, ◌++◌, map, filter, length, Option, Some, None, option_map, IfSome, refl, sym, ap, subst, ◌∙◌, append-nil, length-append, arith}
use Rattle.std.specs.List.{find, flat_map, list_any, list_all, position_or_len, slice_get}
use Rattle.std.proofs.lemmas.Bool.{eqb-true, eq-eqb, ne_eqb, or_parts}
use Rattle.std.proofs.lemmas.Option.{slice_get-map}
use Rattle.std.proofs.lemmas.List.Folds.{find_at}
use Rattle.std.proofs.lemmas.List.Elements.{filter-append}
use Rattle.farm_types.specs.declared.rows.JobRow.{JobRow}
use Rattle.farm_types.specs.declared.rows.LayerRow.{LayerRow}
use Rattle.farm_types.specs.Farm.{changed_at}
use Rattle.farm_types.specs.Rising.{IsRising}
use Rattle.farm_types.proofs.ChangedLists.{changed_at_suc}
use Rattle.farm_types.proofs.Lists.{and_both}
use Rattle.job_entries.specs.declared.counts.Counts.{Counts}
use Rattle.job_entries.specs.Entries.{are_layers, counts_held, entry_key, has_number, index_held, index_in, is_layer, is_whole, layers_held, layers_in, on_number, row_of, with_mark, layer_position}
use Rattle.job_index.specs.Places.{LayerPlaces, marked}
use Rattle.job_entries.specs.OneJob.{OneJob}
use Rattle.job_entries.proofs.Held.{position_or_len-map, stay_above}

-- ---- rows and counts

pub find-map : {X Y : Type 0} (test : Y → Bool) (read : X → Y) (xs : List X) → find test (map read xs) ≡ option_map read (find (λ x. test (read x)) xs)
find-map test read [] = refl
find-map test read (x ∷ xs) = by (test (read x)) refl (find-map test read xs)
  where
    by : (b : Bool) → test (read x) ≡ b → find test (map read xs) ≡ option_map read (find (λ y. test (read y)) xs) → find test (map read (x ∷ xs)) ≡ option_map read (find (λ y. test (read y)) (x ∷ xs))
    by true is later = rw is refl
    by false is later = rw is later

pub filter-map : {X Y : Type 0} (test : Y → Bool) (read : X → Y) (xs : List X) → map read (filter (λ x. test (read x)) xs) ≡ filter test (map read xs)
filter-map test read [] = refl
filter-map test read (x ∷ xs) = by (test (read x)) refl (filter-map test read xs)
  where
    by : (b : Bool) → test (read x) ≡ b → map read (filter (λ y. test (read y)) xs) ≡ filter test (map read xs) → map read (filter (λ y. test (read y)) (x ∷ xs)) ≡ filter test (map read (x ∷ xs))
    by true is later = rw is (ap (λ ys. read x ∷ ys) later)
    by false is later = rw is later

pub number_read : (o : Option OneJob) → option_map (λ (e : OneJob). e.row.job) o ≡ option_map (λ (j : JobRow). j.job) (option_map row_of o)
number_read None = refl
number_read (Some e) = refl

-- the row of the job of a number
pub row_found : (job : ℕ) (es : List OneJob) → option_map row_of (find (has_number job) es) ≡ find (λ (j : JobRow). eqb j.job job) (map row_of es)
row_found job es = sym (find-map (λ (j : JobRow). eqb j.job job) row_of es)

-- what holds of the counts that are found
pub can_here : (P : Counts → Type 0) (o : Option OneJob) (q : Option Counts) → option_map counts_held o ≡ q → IfSome q P → IfSome o (λ (e : OneJob). P e.counts)
can_here P None q is h = tt
can_here P (Some e) q is h = subst (λ (o : Option Counts). IfSome o P) (sym is) h

-- its counts
pub counts_found : (job : ℕ) (es : List OneJob) → option_map counts_held (find (has_number job) es) ≡ slice_get (map counts_held es) (position_or_len (λ (j : JobRow). eqb j.job job) (map row_of es))
counts_found job es =
    ap (option_map counts_held) (find_at (has_number job) es)
    ∙ sym (slice_get-map counts_held es (position_or_len (has_number job) es))
    ∙ ap (slice_get (map counts_held es)) (sym (position_or_len-map (λ (j : JobRow). eqb j.job job) row_of es))

-- ---- what stands beside the first item that passes a test

abbrev pub first_beside : {K X : Type 0} → (K → Bool) → List K → List X → Option X
first_beside test [] xs = None
first_beside test (k ∷ ks) [] = None
first_beside test (k ∷ ks) (x ∷ xs) = cond (test k) (Some x) (first_beside test ks xs)

abbrev pub change_beside : {K X : Type 0} → (K → Bool) → List K → List X → (X → X) → List X
change_beside test [] xs g = xs
change_beside test (k ∷ ks) [] g = []
change_beside test (k ∷ ks) (x ∷ xs) g = cond (test k) (g x ∷ xs) (x ∷ change_beside test ks xs g)

module _ {K X : Type 0} (test : K → Bool) where
  pub beside_is : (ks : List K) (xs : List X) → length xs ≡ length ks → slice_get xs (position_or_len test ks) ≡ first_beside test ks xs
  beside_is [] [] long = refl
  beside_is [] (x ∷ xs) long = absurd (omega (arith, long))
  beside_is (k ∷ ks) [] long = absurd (omega (arith, long))
  beside_is (k ∷ ks) (x ∷ xs) long = by (test k) refl (beside_is ks xs (omega (arith, long)))
    where
      by : (b : Bool) → test k ≡ b → slice_get xs (position_or_len test ks) ≡ first_beside test ks xs → slice_get (x ∷ xs) (position_or_len test (k ∷ ks)) ≡ first_beside test (k ∷ ks) (x ∷ xs)
      by true is later = rw is refl
      by false is later = let e : 1 + position_or_len test ks ≡ suc (position_or_len test ks) = omega arith in rw (is, e) later

  pub change_is : (g : X → X) (ks : List K) (xs : List X) → length xs ≡ length ks → changed_at xs (position_or_len test ks) g ≡ change_beside test ks xs g
  change_is g [] [] long = refl
  change_is g [] (x ∷ xs) long = absurd (omega (arith, long))
  change_is g (k ∷ ks) [] long = absurd (omega (arith, long))
  change_is g (k ∷ ks) (x ∷ xs) long = by (test k) refl (change_is g ks xs (omega (arith, long)))
    where
      by : (b : Bool) → test k ≡ b → changed_at xs (position_or_len test ks) g ≡ change_beside test ks xs g → changed_at (x ∷ xs) (position_or_len test (k ∷ ks)) g ≡ change_beside test (k ∷ ks) (x ∷ xs) g
      by true is later = rw is refl
      by false is later =
          let e : 1 + position_or_len test ks ≡ suc (position_or_len test ks) = omega arith in
          rw (is, e) (changed_at_suc x xs (position_or_len test ks) g ∙ ap (λ (ys : List X). x ∷ ys) later)

  -- nothing passes in front
  pub beside_behind : (ks ls : List K) (xs ys : List X) → length xs ≡ length ks → list_any test ks ≡ false → first_beside test (ks ++ ls) (xs ++ ys) ≡ first_beside test ls ys
  beside_behind [] ls [] ys long none = refl
  beside_behind [] ls (x ∷ xs) ys long none = absurd (omega (arith, long))
  beside_behind (k ∷ ks) ls [] ys long none = absurd (omega (arith, long))
  beside_behind (k ∷ ks) ls (x ∷ xs) ys long none =
      let split = or_parts (test k) (list_any test ks) none in
      rw split.0 (beside_behind ks ls xs ys (omega (arith, long)) split.1)

  pub change_behind : (g : X → X) (ks ls : List K) (xs ys : List X) → length xs ≡ length ks → list_any test ks ≡ false → change_beside test (ks ++ ls) (xs ++ ys) g ≡ xs ++ change_beside test ls ys g
  change_behind g [] ls [] ys long none = refl
  change_behind g [] ls (x ∷ xs) ys long none = absurd (omega (arith, long))
  change_behind g (k ∷ ks) ls [] ys long none = absurd (omega (arith, long))
  change_behind g (k ∷ ks) ls (x ∷ xs) ys long none =
      let split = or_parts (test k) (list_any test ks) none in
      rw split.0 (ap (λ (zs : List X). x ∷ zs) (change_behind g ks ls xs ys (omega (arith, long)) split.1))

  -- nothing passes behind
  pub none_beside : (ks : List K) (xs : List X) → list_any test ks ≡ false → first_beside test ks xs ≡ None
  none_beside [] xs none = refl
  none_beside (k ∷ ks) [] none = refl
  none_beside (k ∷ ks) (x ∷ xs) none =
      let split = or_parts (test k) (list_any test ks) none in
      rw split.0 (none_beside ks xs split.1)

  pub none_changed : (g : X → X) (ks : List K) (xs : List X) → list_any test ks ≡ false → change_beside test ks xs g ≡ xs
  none_changed g [] xs none = refl
  none_changed g (k ∷ ks) [] none = refl
  none_changed g (k ∷ ks) (x ∷ xs) none =
      let split = or_parts (test k) (list_any test ks) none in
      rw split.0 (ap (λ (zs : List X). x ∷ zs) (none_changed g ks xs split.1))

  pub beside_front : (ks ls : List K) (xs ys : List X) → length xs ≡ length ks → list_any test ls ≡ false → first_beside test (ks ++ ls) (xs ++ ys) ≡ first_beside test ks xs
  beside_front [] ls [] ys long none = none_beside ls ys none
  beside_front [] ls (x ∷ xs) ys long none = absurd (omega (arith, long))
  beside_front (k ∷ ks) ls [] ys long none = absurd (omega (arith, long))
  beside_front (k ∷ ks) ls (x ∷ xs) ys long none = ap (cond (test k) (Some x)) (beside_front ks ls xs ys (omega (arith, long)) none)

  pub change_front : (g : X → X) (ks ls : List K) (xs ys : List X) → length xs ≡ length ks → list_any test ls ≡ false → change_beside test (ks ++ ls) (xs ++ ys) g ≡ change_beside test ks xs g ++ ys
  change_front g [] ls [] ys long none = none_changed g ls ys none
  change_front g [] ls (x ∷ xs) ys long none = absurd (omega (arith, long))
  change_front g (k ∷ ks) ls [] ys long none = absurd (omega (arith, long))
  change_front g (k ∷ ks) ls (x ∷ xs) ys long none = by (test k) refl (change_front g ks ls xs ys (omega (arith, long)) none)
    where
      by : (b : Bool) → test k ≡ b → change_beside test (ks ++ ls) (xs ++ ys) g ≡ change_beside test ks xs g ++ ys
          → change_beside test ((k ∷ ks) ++ ls) ((x ∷ xs) ++ ys) g ≡ change_beside test (k ∷ ks) (x ∷ xs) g ++ ys
      by true is later = rw is refl
      by false is later = rw is (ap (λ (zs : List X). x ∷ zs) later)

-- ---- layers of one job

-- its own layers stand at their places
own_found : (job p layer k : ℕ) (ls : List LayerRow) → layer ≡ p + k → are_layers job p ls ≡ true → find (is_layer job layer) ls ≡ slice_get ls k
own_found job p layer k [] is own = refl
own_found job p layer zero (l ∷ ls) is own =
    let both = and_both (eqb l.job job && eqb l.place p) (are_layers job (p + 1) ls) own in
    let parts = and_both (eqb l.job job) (eqb l.place p) both.0 in
    let here : eqb l.place layer ≡ true = eq-eqb l.place layer (omega (arith, eqb-true l.place p parts.1, is)) in
    rw (parts.0, here) refl
own_found job p layer (suc k) (l ∷ ls) is own =
    let both = and_both (eqb l.job job && eqb l.place p) (are_layers job (p + 1) ls) own in
    let parts = and_both (eqb l.job job) (eqb l.place p) both.0 in
    let apart : eqb l.place layer ≡ false = ne_eqb l.place layer (λ e. absurd (omega (arith, eqb-true l.place p parts.1, is, e))) in
    rw (parts.0, apart) (own_found job (p + 1) layer k ls (omega (arith, is)) both.1)

own_beside : {X : Type 0} (job p layer k : ℕ) (ls : List LayerRow) (xs : List X) → layer ≡ p + k → length xs ≡ length ls → are_layers job p ls ≡ true → first_beside (is_layer job layer) ls xs ≡ slice_get xs k
own_beside job p layer k [] [] is long own = refl
own_beside job p layer k [] (x ∷ xs) is long own = absurd (omega (arith, long))
own_beside job p layer k (l ∷ ls) [] is long own = absurd (omega (arith, long))
own_beside job p layer zero (l ∷ ls) (x ∷ xs) is long own =
    let both = and_both (eqb l.job job && eqb l.place p) (are_layers job (p + 1) ls) own in
    let parts = and_both (eqb l.job job) (eqb l.place p) both.0 in
    let here : eqb l.place layer ≡ true = eq-eqb l.place layer (omega (arith, eqb-true l.place p parts.1, is)) in
    rw (parts.0, here) refl
own_beside job p layer (suc k) (l ∷ ls) (x ∷ xs) is long own =
    let both = and_both (eqb l.job job && eqb l.place p) (are_layers job (p + 1) ls) own in
    let parts = and_both (eqb l.job job) (eqb l.place p) both.0 in
    let apart : eqb l.place layer ≡ false = ne_eqb l.place layer (λ e. absurd (omega (arith, eqb-true l.place p parts.1, is, e))) in
    rw (parts.0, apart) (own_beside job (p + 1) layer k ls xs (omega (arith, is)) (omega (arith, long)) both.1)

own_changed : {X : Type 0} (g : X → X) (job p layer k : ℕ) (ls : List LayerRow) (xs : List X) → layer ≡ p + k → length xs ≡ length ls → are_layers job p ls ≡ true
    → change_beside (is_layer job layer) ls xs g ≡ changed_at xs k g
own_changed g job p layer k [] [] is long own = refl
own_changed g job p layer k [] (x ∷ xs) is long own = absurd (omega (arith, long))
own_changed g job p layer k (l ∷ ls) [] is long own = absurd (omega (arith, long))
own_changed g job p layer zero (l ∷ ls) (x ∷ xs) is long own =
    let both = and_both (eqb l.job job && eqb l.place p) (are_layers job (p + 1) ls) own in
    let parts = and_both (eqb l.job job) (eqb l.place p) both.0 in
    let here : eqb l.place layer ≡ true = eq-eqb l.place layer (omega (arith, eqb-true l.place p parts.1, is)) in
    rw (parts.0, here) refl
own_changed {X = X} g job p layer (suc k) (l ∷ ls) (x ∷ xs) is long own =
    let both = and_both (eqb l.job job && eqb l.place p) (are_layers job (p + 1) ls) own in
    let parts = and_both (eqb l.job job) (eqb l.place p) both.0 in
    let apart : eqb l.place layer ≡ false = ne_eqb l.place layer (λ e. absurd (omega (arith, eqb-true l.place p parts.1, is, e))) in
    rw (parts.0, apart) (ap (λ (ys : List X). x ∷ ys) (own_changed g job (p + 1) layer k ls xs (omega (arith, is)) (omega (arith, long)) both.1) ∙ sym (changed_at_suc x xs k g))

abbrev of_job : ℕ → LayerRow → Bool
of_job job l = eqb l.job job

own_filtered : (job p : ℕ) (ls : List LayerRow) → are_layers job p ls ≡ true → filter (of_job job) ls ≡ ls
own_filtered job p [] own = refl
own_filtered job p (l ∷ ls) own =
    let both = and_both (eqb l.job job && eqb l.place p) (are_layers job (p + 1) ls) own in
    let parts = and_both (eqb l.job job) (eqb l.place p) both.0 in
    rw parts.0 (ap (λ (ks : List LayerRow). l ∷ ks) (own_filtered job (p + 1) ls both.1))

-- another job's layers
module _ (job other : ℕ) (apart : eqb job other ≡ false) where
  other_any : (p layer : ℕ) (ls : List LayerRow) → are_layers job p ls ≡ true → list_any (is_layer other layer) ls ≡ false
  other_any p layer [] own = refl
  other_any p layer (l ∷ ls) own =
      let both = and_both (eqb l.job job && eqb l.place p) (are_layers job (p + 1) ls) own in
      let parts = and_both (eqb l.job job) (eqb l.place p) both.0 in
      let not_its : eqb l.job other ≡ false = ap (λ (n : ℕ). eqb n other) (eqb-true l.job job parts.0) ∙ apart in
      rw not_its (other_any (p + 1) layer ls both.1)

  other_filtered : (p : ℕ) (ls : List LayerRow) → are_layers job p ls ≡ true → filter (of_job other) ls ≡ []
  other_filtered p [] own = refl
  other_filtered p (l ∷ ls) own =
      let both = and_both (eqb l.job job && eqb l.place p) (are_layers job (p + 1) ls) own in
      let parts = and_both (eqb l.job job) (eqb l.place p) both.0 in
      let not_its : eqb l.job other ≡ false = ap (λ (n : ℕ). eqb n other) (eqb-true l.job job parts.0) ∙ apart in
      rw not_its (other_filtered (p + 1) ls both.1)

-- ---- layers of all jobs

-- the parts of what is known of the first job
pub whole_parts : (e : OneJob) (es : List OneJob) → list_all is_whole (e ∷ es) ≡ true → (are_layers e.row.job 0 e.layers ≡ true) × (length e.index ≡ length e.layers) × (list_all is_whole es ≡ true)
whole_parts e es all =
    let both = and_both (is_whole e) (list_all is_whole es) all in
    let parts = and_both (are_layers e.row.job 0 e.layers) (eqb (length e.index) (length e.layers)) both.0 in
    (parts.0, eqb-true (length e.index) (length e.layers) parts.1, both.1)

any-append : {X : Type 0} (test : X → Bool) (xs ys : List X) → list_any test xs ≡ false → list_any test ys ≡ false → list_any test (xs ++ ys) ≡ false
any-append test [] ys a b = b
any-append test (x ∷ xs) ys a b =
    let split = or_parts (test x) (list_any test xs) a in
    rw split.0 (any-append test xs ys split.1 b)

pub lengths_held : (es : List OneJob) → list_all is_whole es ≡ true → length (flat_map index_held es) ≡ length (flat_map layers_held es)
lengths_held [] all = refl
lengths_held (e ∷ es) all =
    let parts = whole_parts e es all in
    length-append e.index (flat_map index_held es) ∙ omega (arith, parts.1, lengths_held es parts.2, length-append e.layers (flat_map layers_held es))

module _ (job layer : ℕ) where
  -- jobs above a number have no layer of it
  none_layered : (low : ℕ) (es : List OneJob) (high : ℕ) → job < low → IsRising entry_key low es high → list_all is_whole es ≡ true → list_any (is_layer job layer) (flat_map layers_held es) ≡ false
  none_layered low [] high less rise all = refl
  none_layered low (e ∷ es) high less rise all =
      let parts = whole_parts e es all in
      let apart : eqb e.row.job job ≡ false = ne_eqb e.row.job job (λ q. absurd (omega (arith, rise.0, q, less))) in
      any-append (is_layer job layer) e.layers (flat_map layers_held es) (other_any e.row.job job apart 0 layer e.layers parts.0)
      (none_layered (e.row.job + 1) es high (omega (arith, rise.0, less)) rise.1 parts.2)

  none_filtered : (low : ℕ) (es : List OneJob) (high : ℕ) → job < low → IsRising entry_key low es high → list_all is_whole es ≡ true → filter (of_job job) (flat_map layers_held es) ≡ []
  none_filtered low [] high less rise all = refl
  none_filtered low (e ∷ es) high less rise all =
      let parts = whole_parts e es all in
      let apart : eqb e.row.job job ≡ false = ne_eqb e.row.job job (λ q. absurd (omega (arith, rise.0, q, less))) in
      filter-append (of_job job) e.layers (flat_map layers_held es)
      ∙ rw (other_filtered e.row.job job apart 0 e.layers parts.0) (none_filtered (e.row.job + 1) es high (omega (arith, rise.0, less)) rise.1 parts.2)

  -- the job's layers among all
  pub layers_filtered : (low : ℕ) (es : List OneJob) (high : ℕ) → IsRising entry_key low es high → list_all is_whole es ≡ true → layers_in (find (has_number job) es) ≡ filter (of_job job) (flat_map layers_held es)
  layers_filtered low [] high rise all = refl
  layers_filtered low (e ∷ es) high rise all =
      let parts = whole_parts e es all in
      by (eqb e.row.job job) refl parts.0 parts.2 (layers_filtered (e.row.job + 1) es high rise.1 parts.2) ∙ sym (filter-append (of_job job) e.layers (flat_map layers_held es))
    where
      by : (b : Bool) → eqb e.row.job job ≡ b → are_layers e.row.job 0 e.layers ≡ true → list_all is_whole es ≡ true → layers_in (find (has_number job) es) ≡ filter (of_job job) (flat_map layers_held es)
          → layers_in (find (has_number job) (e ∷ es)) ≡ filter (of_job job) e.layers ++ filter (of_job job) (flat_map layers_held es)
      by true is own rest later =
          let same : e.row.job ≡ job = eqb-true e.row.job job is in
          let mine = own_filtered job 0 e.layers (ap (λ (n : ℕ). are_layers n 0 e.layers) (sym same) ∙ own) in
          let none = none_filtered (e.row.job + 1) es high (omega (arith, same)) rise.1 rest in
          rw (is, mine, none) (sym (append-nil e.layers))
      by false is own rest later =
          rw (is, other_filtered e.row.job job is 0 e.layers own) later

  beside_held : (low : ℕ) (es : List OneJob) (high : ℕ) → IsRising entry_key low es high → list_all is_whole es ≡ true
      → slice_get (index_in (find (has_number job) es)) layer ≡ first_beside (is_layer job layer) (flat_map layers_held es) (flat_map index_held es)
  beside_held low [] high rise all = refl
  beside_held low (e ∷ es) high rise all =
      let parts = whole_parts e es all in
      by (eqb e.row.job job) refl parts.0 parts.1 parts.2 (beside_held (e.row.job + 1) es high rise.1 parts.2)
    where
      by : (b : Bool) → eqb e.row.job job ≡ b → are_layers e.row.job 0 e.layers ≡ true → length e.index ≡ length e.layers → list_all is_whole es ≡ true
          → slice_get (index_in (find (has_number job) es)) layer ≡ first_beside (is_layer job layer) (flat_map layers_held es) (flat_map index_held es)
          → slice_get (index_in (find (has_number job) (e ∷ es))) layer ≡ first_beside (is_layer job layer) (flat_map layers_held (e ∷ es)) (flat_map index_held (e ∷ es))
      by true is own long rest later =
          let same : e.row.job ≡ job = eqb-true e.row.job job is in
          let mine = ap (λ (n : ℕ). are_layers n 0 e.layers) (sym same) ∙ own in
          let none = none_layered (e.row.job + 1) es high (omega (arith, same)) rise.1 rest in
          rw is (sym (beside_front (is_layer job layer) e.layers (flat_map layers_held es) e.index (flat_map index_held es) long none ∙ own_beside job 0 layer layer e.layers e.index (omega arith) long mine))
      by false is own long rest later =
          rw is (later
          ∙ sym (beside_behind (is_layer job layer) e.layers (flat_map layers_held es) e.index (flat_map index_held es) long (other_any e.row.job job is 0 layer e.layers own)))

  -- where the frames of its layer stand
  pub index_found : (low : ℕ) (es : List OneJob) (high : ℕ) → IsRising entry_key low es high → list_all is_whole es ≡ true
      → slice_get (index_in (find (has_number job) es)) layer ≡ slice_get (flat_map index_held es) (layer_position job layer (flat_map layers_held es))
  index_found low es high rise all =
      beside_held low es high rise all ∙ sym (beside_is (is_layer job layer) (flat_map layers_held es) (flat_map index_held es) (lengths_held es all))

  pub layers_beside : (low : ℕ) (es : List OneJob) (high : ℕ) → IsRising entry_key low es high → list_all is_whole es ≡ true
      → slice_get (layers_in (find (has_number job) es)) layer ≡ find (is_layer job layer) (flat_map layers_held es)
  layers_beside low [] high rise all = refl
  layers_beside low (e ∷ es) high rise all =
      let parts = whole_parts e es all in
      by (eqb e.row.job job) refl parts.0 parts.2 (layers_beside (e.row.job + 1) es high rise.1 parts.2)
    where
      none_any : (ls : List LayerRow) → list_any (is_layer job layer) ls ≡ false → find (is_layer job layer) ls ≡ None
      none_any ls none = find_at (is_layer job layer) ls ∙ beside_is (is_layer job layer) ls ls refl ∙ none_beside (is_layer job layer) ls ls none

      beside_itself : (ls : List LayerRow) → find (is_layer job layer) ls ≡ first_beside (is_layer job layer) ls ls
      beside_itself ls = find_at (is_layer job layer) ls ∙ beside_is (is_layer job layer) ls ls refl

      by : (b : Bool) → eqb e.row.job job ≡ b → are_layers e.row.job 0 e.layers ≡ true → list_all is_whole es ≡ true
          → slice_get (layers_in (find (has_number job) es)) layer ≡ find (is_layer job layer) (flat_map layers_held es)
          → slice_get (layers_in (find (has_number job) (e ∷ es))) layer ≡ find (is_layer job layer) (flat_map layers_held (e ∷ es))
      by true is own rest later =
          let same : e.row.job ≡ job = eqb-true e.row.job job is in
          let mine = ap (λ (n : ℕ). are_layers n 0 e.layers) (sym same) ∙ own in
          let none = none_layered (e.row.job + 1) es high (omega (arith, same)) rise.1 rest in
          rw is (sym (beside_itself (e.layers ++ flat_map layers_held es)
          ∙ beside_front (is_layer job layer) e.layers (flat_map layers_held es) e.layers (flat_map layers_held es) refl none ∙ own_beside job 0 layer layer e.layers e.layers (omega arith) refl mine))
      by false is own rest later =
          rw is (later
          ∙ sym (beside_itself (e.layers ++ flat_map layers_held es)
          ∙ beside_behind (is_layer job layer) e.layers (flat_map layers_held es) e.layers (flat_map layers_held es) refl (other_any e.row.job job is 0 layer e.layers own)
          ∙ sym (beside_itself (flat_map layers_held es))))

  pub layer_found : (low : ℕ) (es : List OneJob) (high : ℕ) → IsRising entry_key low es high → list_all is_whole es ≡ true
      → slice_get (filter (of_job job) (flat_map layers_held es)) layer ≡ find (is_layer job layer) (flat_map layers_held es)
  layer_found low es high rise all = ap (λ (ls : List LayerRow). slice_get ls layer) (sym (layers_filtered low es high rise all)) ∙ layers_beside low es high rise all

  -- ---- a frame's mark

  module _ (position : ℕ) (waits : Bool) where
    abbrev mark : OneJob → OneJob
    mark = on_number job (with_mark layer position waits)

    same_by : {Y : Type 0} (read : OneJob → Y) → ((e : OneJob) → read (with_mark layer position waits e) ≡ read e) → (b : Bool) (e : OneJob) → read (cond b (with_mark layer position waits e) e) ≡ read e
    same_by read same true e = same e
    same_by read same false e = refl

    pub mark_keeps : {Y : Type 0} (read : OneJob → Y) → ((e : OneJob) → read (with_mark layer position waits e) ≡ read e) → (e : OneJob) → read (mark e) ≡ read e
    mark_keeps read same e = same_by read same (has_number job e) e

    marked_beside : (low : ℕ) (es : List OneJob) (high : ℕ) → IsRising entry_key low es high → list_all is_whole es ≡ true
        → flat_map index_held (map mark es) ≡ change_beside (is_layer job layer) (flat_map layers_held es) (flat_map index_held es) (marked position waits)
    marked_beside low [] high rise all = refl
    marked_beside low (e ∷ es) high rise all =
        let parts = whole_parts e es all in
        by (eqb e.row.job job) refl parts.0 parts.1 parts.2 (marked_beside (e.row.job + 1) es high rise.1 parts.2)
      where
        by : (b : Bool) → eqb e.row.job job ≡ b → are_layers e.row.job 0 e.layers ≡ true → length e.index ≡ length e.layers → list_all is_whole es ≡ true
            → flat_map index_held (map mark es) ≡ change_beside (is_layer job layer) (flat_map layers_held es) (flat_map index_held es) (marked position waits)
            → flat_map index_held (map mark (e ∷ es)) ≡ change_beside (is_layer job layer) (flat_map layers_held (e ∷ es)) (flat_map index_held (e ∷ es)) (marked position waits)
        by true is own long rest later =
            let same : e.row.job ≡ job = eqb-true e.row.job job is in
            let mine = ap (λ (n : ℕ). are_layers n 0 e.layers) (sym same) ∙ own in
            let none = none_layered (e.row.job + 1) es high (omega (arith, same)) rise.1 rest in
            let stay = stay_above job (with_mark layer position waits) (e.row.job + 1) es high (omega (arith, same)) rise.1 in
            rw (is, stay) (sym (change_front (is_layer job layer) (marked position waits) e.layers (flat_map layers_held es) e.index (flat_map index_held es) long none
            ∙ ap (λ (xs : List LayerPlaces). xs ++ flat_map index_held es) (own_changed (marked position waits) job 0 layer layer e.layers e.index (omega arith) long mine)))
        by false is own long rest later =
            rw is (ap (λ (xs : List LayerPlaces). e.index ++ xs) later
            ∙ sym (change_behind (is_layer job layer) (marked position waits) e.layers (flat_map layers_held es) e.index (flat_map index_held es) long (other_any e.row.job job is 0 layer e.layers own)))

    pub index_marked : (low : ℕ) (es : List OneJob) (high : ℕ) → IsRising entry_key low es high → list_all is_whole es ≡ true
        → flat_map index_held (map mark es) ≡ changed_at (flat_map index_held es) (layer_position job layer (flat_map layers_held es)) (marked position waits)
    index_marked low es high rise all =
        marked_beside low es high rise all ∙ sym (change_is (is_layer job layer) (marked position waits) (flat_map layers_held es) (flat_map index_held es) (lengths_held es all))
