-- The jobs that places hold: what is found, changed and left among them.
use Rattle.std.proofs.Common.{◌≡◌, ℕ, suc, zero, ◌+◌, ◌≤◌, ◌<◌, ◌&&◌, Bool, true, false, not, eqb, ltb, List, [], ◌∷◌, ◌++◌, map, filter, drop, length, Option, Some, None, option_map, is_some, get_or, cond, refl, sym, ap, subst, ◌∙◌, arith}
use Rattle.std.specs.List.{find, slice_get, list_all, position_or_len}
use Rattle.std.proofs.lemmas.Bool.{eqb-true, ne_eqb, and_from, le-ltb}
use Rattle.std.specs.Option.{option_or}
use Rattle.std.proofs.lemmas.List.{drop_more}
use Rattle.farm_types.specs.Farm.{changed_at, for_any}
use Rattle.farm_types.specs.Rising.{IsRising}
use Rattle.farm_types.proofs.ChangedLists.{changed_at_suc}
use Rattle.farm_types.proofs.Lists.{and_both}
use Rattle.farm_law.proofs.KeptJobsLists.{rising_lower}
use Rattle.job_entries.specs.declared.entries.At.{At}
use Rattle.job_entries.specs.declared.entries.Place.{Place}
use Rattle.job_entries.specs.Entries.{IsAt, emptied, entry_key, has_number, held, held_in, is_held_at, is_taken, is_whole, on_number, onto, place_key, place_of_number, with_held}
use Rattle.job_entries.specs.OneJob.{OneJob}

-- ---- lists

-- of what is read of the items
pub position_or_len-map : {X Y : Type 0} (test : Y → Bool) (read : X → Y) (xs : List X) → position_or_len test (map read xs) ≡ position_or_len (λ x. test (read x)) xs
position_or_len-map test read [] = refl
position_or_len-map test read (x ∷ xs) = ap (λ n. cond (not (test (read x))) (1 + n) 0) (position_or_len-map test read xs)

-- ---- one place

-- the place of that number holds its job, or none
abbrev IsOf : ℕ → Option OneJob → Type 0
IsOf key o = for_any o (λ (e : OneJob). eqb e.row.job key && is_whole e) ≡ true

rising_onto : (low key high : ℕ) (o : Option OneJob) (es : List OneJob) → low ≤ key → IsOf key o → IsRising entry_key (key + 1) es high → IsRising entry_key low (onto o es) high
rising_onto low key high None es less is rise = rising_lower entry_key low (key + 1) es high (omega (arith, less)) rise
rising_onto low key high (Some e) es less is rise =
    let same : e.row.job ≡ key = eqb-true e.row.job key (and_both (eqb e.row.job key) (is_whole e) is).0 in
    (omega (arith, same, less), subst (λ (k : ℕ). IsRising entry_key (k + 1) es high) (sym same) rise)

-- the numbers of the jobs rise as those of their places do
pub rising_held : (low : ℕ) (ps : List Place) (high : ℕ) → IsRising place_key low ps high → list_all is_held_at ps ≡ true → IsRising entry_key low (held ps) high
rising_held low [] high rise each = rise
rising_held low (p ∷ ps) high rise each =
    let both = and_both (is_held_at p) (list_all is_held_at ps) each in
    rising_onto low p.job high p.held (held ps) rise.0 both.0 (rising_held (p.job + 1) ps high rise.1 both.1)

whole_onto : (key : ℕ) (o : Option OneJob) (es : List OneJob) → IsOf key o → list_all is_whole es ≡ true → list_all is_whole (onto o es) ≡ true
whole_onto key None es is all = all
whole_onto key (Some e) es is all = and_from (is_whole e) (list_all is_whole es) (and_both (eqb e.row.job key) (is_whole e) is).1 all

pub whole_held : (ps : List Place) → list_all is_held_at ps ≡ true → list_all is_whole (held ps) ≡ true
whole_held [] each = refl
whole_held (p ∷ ps) each =
    let both = and_both (is_held_at p) (list_all is_held_at ps) each in
    whole_onto p.job p.held (held ps) both.0 (whole_held ps both.1)

-- ---- jobs above a number aren't it

module _ (job : ℕ) where
  pub none_above : (low : ℕ) (es : List OneJob) (high : ℕ) → job < low → IsRising entry_key low es high → find (has_number job) es ≡ None
  none_above low [] high less rise = refl
  none_above low (e ∷ es) high less rise =
      let apart : eqb e.row.job job ≡ false = ne_eqb e.row.job job (λ q. absurd (omega (arith, rise.0, q, less))) in
      rw apart (none_above (e.row.job + 1) es high (omega (arith, rise.0, less)) rise.1)

  pub stay_above : (f : OneJob → OneJob) (low : ℕ) (es : List OneJob) (high : ℕ) → job < low → IsRising entry_key low es high → map (on_number job f) es ≡ es
  stay_above f low [] high less rise = refl
  stay_above f low (e ∷ es) high less rise =
      let apart : eqb e.row.job job ≡ false = ne_eqb e.row.job job (λ q. absurd (omega (arith, rise.0, q, less))) in
      let rest = stay_above f (e.row.job + 1) es high (omega (arith, rise.0, less)) rise.1 in
      rw (apart, rest) refl

  pub kept_above : (low : ℕ) (es : List OneJob) (high : ℕ) → job < low → IsRising entry_key low es high → filter (λ (e : OneJob). not (has_number job e)) es ≡ es
  kept_above low [] high less rise = refl
  kept_above low (e ∷ es) high less rise =
      let apart : eqb e.row.job job ≡ false = ne_eqb e.row.job job (λ q. absurd (omega (arith, rise.0, q, less))) in
      let rest = kept_above (e.row.job + 1) es high (omega (arith, rise.0, less)) rise.1 in
      rw (apart, rest) refl

  -- ---- at the place of the number

  find_here : (key : ℕ) (o : Option OneJob) (es : List OneJob) → eqb key job ≡ true → IsOf key o → find (has_number job) es ≡ None → o ≡ find (has_number job) (onto o es)
  find_here key None es is of none = sym none
  find_here key (Some e) es is of none =
      let same : eqb e.row.job job ≡ true = ap (λ (n : ℕ). eqb n job) (eqb-true e.row.job key (and_both (eqb e.row.job key) (is_whole e) of).0) ∙ is in
      rw same refl

  find_there : (key : ℕ) (o : Option OneJob) (es : List OneJob) → eqb key job ≡ false → IsOf key o → find (has_number job) es ≡ find (has_number job) (onto o es)
  find_there key None es is of = refl
  find_there key (Some e) es is of =
      let other : eqb e.row.job job ≡ false = ap (λ (n : ℕ). eqb n job) (eqb-true e.row.job key (and_both (eqb e.row.job key) (is_whole e) of).0) ∙ is in
      rw other refl

  suc_place : (ps : List Place) → 1 + place_of_number job ps ≡ suc (place_of_number job ps)
  suc_place ps = omega arith

  pub find_held : (low : ℕ) (ps : List Place) (high : ℕ) → IsRising place_key low ps high → list_all is_held_at ps ≡ true
      → held_in (slice_get ps (place_of_number job ps)) ≡ find (has_number job) (held ps)
  find_held low [] high rise each = refl
  find_held low (p ∷ ps) high rise each =
      let both = and_both (is_held_at p) (list_all is_held_at ps) each in
      by (eqb p.job job) refl both.0 both.1 (find_held (p.job + 1) ps high rise.1 both.1)
    where
      by : (b : Bool) → eqb p.job job ≡ b → IsOf p.job p.held → list_all is_held_at ps ≡ true → held_in (slice_get ps (place_of_number job ps)) ≡ find (has_number job) (held ps)
          → held_in (slice_get (p ∷ ps) (place_of_number job (p ∷ ps))) ≡ find (has_number job) (held (p ∷ ps))
      by true is of all later =
          rw is (find_here p.job p.held (held ps) is of (none_above (p.job + 1) (held ps) high (omega (arith, eqb-true p.job job is)) (rising_held (p.job + 1) ps high rise.1 all)))
      by false is of all later =
          rw (is, suc_place ps) (later ∙ find_there p.job p.held (held ps) is of)

  module _ (f : OneJob → OneJob) where
    change_here : (key : ℕ) (o : Option OneJob) (es : List OneJob) → eqb key job ≡ true → IsOf key o → map (on_number job f) es ≡ es → onto (option_map f o) es ≡ map (on_number job f) (onto o es)
    change_here key None es is of same = sym same
    change_here key (Some e) es is of same =
        let there : eqb e.row.job job ≡ true = ap (λ (n : ℕ). eqb n job) (eqb-true e.row.job key (and_both (eqb e.row.job key) (is_whole e) of).0) ∙ is in
        rw (there, same) refl

    change_there : (key : ℕ) (o : Option OneJob) (es changed : List OneJob) → eqb key job ≡ false → IsOf key o → changed ≡ map (on_number job f) es → onto o changed ≡ map (on_number job f) (onto o es)
    change_there key None es changed is of later = later
    change_there key (Some e) es changed is of later =
        let other : eqb e.row.job job ≡ false = ap (λ (n : ℕ). eqb n job) (eqb-true e.row.job key (and_both (eqb e.row.job key) (is_whole e) of).0) ∙ is in
        rw (other, later) refl

    -- the change at the number's place is one of the job alone, where it is there
    pub changed_held : (low : ℕ) (ps : List Place) (high : ℕ) → IsRising place_key low ps high → list_all is_held_at ps ≡ true
        → held (changed_at ps (place_of_number job ps) (with_held f)) ≡ map (on_number job f) (held ps)
    changed_held low [] high rise each = refl
    changed_held low (p ∷ ps) high rise each =
        let both = and_both (is_held_at p) (list_all is_held_at ps) each in
        by (eqb p.job job) refl both.0 both.1 (changed_held (p.job + 1) ps high rise.1 both.1)
      where
        by : (b : Bool) → eqb p.job job ≡ b → IsOf p.job p.held → list_all is_held_at ps ≡ true → held (changed_at ps (place_of_number job ps) (with_held f)) ≡ map (on_number job f) (held ps)
            → held (changed_at (p ∷ ps) (place_of_number job (p ∷ ps)) (with_held f)) ≡ map (on_number job f) (held (p ∷ ps))
        by true is of all later =
            rw is (change_here p.job p.held (held ps) is of (stay_above f (p.job + 1) (held ps) high (omega (arith, eqb-true p.job job is)) (rising_held (p.job + 1) ps high rise.1 all)))
        by false is of all later =
            rw (is, suc_place ps, changed_at_suc p ps (place_of_number job ps) (with_held f)) (change_there p.job p.held (held ps) _ is of later)

  leave_here : (key : ℕ) (o : Option OneJob) (es : List OneJob) → eqb key job ≡ true → IsOf key o → filter (λ (e : OneJob). not (has_number job e)) es ≡ es
      → es ≡ filter (λ (e : OneJob). not (has_number job e)) (onto o es)
  leave_here key None es is of same = sym same
  leave_here key (Some e) es is of same =
      let there : eqb e.row.job job ≡ true = ap (λ (n : ℕ). eqb n job) (eqb-true e.row.job key (and_both (eqb e.row.job key) (is_whole e) of).0) ∙ is in
      rw (there, same) refl

  leave_there : (key : ℕ) (o : Option OneJob) (es left : List OneJob) → eqb key job ≡ false → IsOf key o → left ≡ filter (λ (e : OneJob). not (has_number job e)) es
      → onto o left ≡ filter (λ (e : OneJob). not (has_number job e)) (onto o es)
  leave_there key None es left is of later = later
  leave_there key (Some e) es left is of later =
      let other : eqb e.row.job job ≡ false = ap (λ (n : ℕ). eqb n job) (eqb-true e.row.job key (and_both (eqb e.row.job key) (is_whole e) of).0) ∙ is in
      rw (other, later) refl

  -- the jobs that stay where the number's place is emptied
  pub left_held : (low : ℕ) (ps : List Place) (high : ℕ) → IsRising place_key low ps high → list_all is_held_at ps ≡ true
      → held (changed_at ps (place_of_number job ps) emptied) ≡ filter (λ (e : OneJob). not (has_number job e)) (held ps)
  left_held low [] high rise each = refl
  left_held low (p ∷ ps) high rise each =
      let both = and_both (is_held_at p) (list_all is_held_at ps) each in
      by (eqb p.job job) refl both.0 both.1 (left_held (p.job + 1) ps high rise.1 both.1)
    where
      by : (b : Bool) → eqb p.job job ≡ b → IsOf p.job p.held → list_all is_held_at ps ≡ true → held (changed_at ps (place_of_number job ps) emptied) ≡ filter (λ (e : OneJob). not (has_number job e)) (held ps)
          → held (changed_at (p ∷ ps) (place_of_number job (p ∷ ps)) emptied) ≡ filter (λ (e : OneJob). not (has_number job e)) (held (p ∷ ps))
      by true is of all later =
          rw is (leave_here p.job p.held (held ps) is of (kept_above (p.job + 1) (held ps) high (omega (arith, eqb-true p.job job is)) (rising_held (p.job + 1) ps high rise.1 all)))
      by false is of all later =
          rw (is, suc_place ps, changed_at_suc p ps (place_of_number job ps) emptied) (leave_there p.job p.held (held ps) _ is of later)

-- ---- a place that was found

pub at_number : (at : At) (ps : List Place) → IsAt at (map place_key ps) → at.place ≡ place_of_number at.job ps
at_number at ps is = is ∙ position_or_len-map (λ (n : ℕ). eqb n at.job) place_key ps

-- what stands there is the job of the number
pub found_held : (at : At) (ps : List Place) (high : ℕ) → IsRising place_key 0 ps high → list_all is_held_at ps ≡ true → IsAt at (map place_key ps)
    → held_in (slice_get ps at.place) ≡ find (has_number at.job) (held ps)
found_held at ps high rise each is = ap (λ (n : ℕ). held_in (slice_get ps n)) (at_number at ps is) ∙ find_held at.job 0 ps high rise each

-- a place that changes keeps its number
pub same_keys : (f : Place → Place) → ((p : Place) → (f p).job ≡ p.job) → (ps : List Place) (n : ℕ) → map place_key (changed_at ps n f) ≡ map place_key ps
same_keys f same [] n = refl
same_keys f same (p ∷ ps) zero = ap (λ (k : ℕ). k ∷ map place_key ps) (same p)
same_keys f same (p ∷ ps) (suc n) = ap (map place_key) (changed_at_suc p ps n f) ∙ ap (λ (ks : List ℕ). p.job ∷ ks) (same_keys f same ps n)

-- ---- places that are added, and closed up

onto-append : (o : Option OneJob) (xs ys zs : List OneJob) → zs ≡ xs ++ ys → onto o zs ≡ onto o xs ++ ys
onto-append None xs ys zs is = is
onto-append (Some e) xs ys zs is = ap (λ (es : List OneJob). e ∷ es) is

pub held_more : (ps qs : List Place) → held (ps ++ qs) ≡ held ps ++ held qs
held_more [] qs = refl
held_more (p ∷ ps) qs = onto-append p.held (held ps) (held qs) (held (ps ++ qs)) (held_more ps qs)

-- ---- the first job above a number

module _ (after : ℕ) where
  abbrev above : OneJob → Bool
  above e = ltb after e.row.job

  skip_onto : (key : ℕ) (o : Option OneJob) (es : List OneJob) → key ≤ after → IsOf key o → find above (onto o es) ≡ find above es
  skip_onto key None es below is = refl
  skip_onto key (Some e) es below is =
      let same : e.row.job ≡ key = eqb-true e.row.job key (and_both (eqb e.row.job key) (is_whole e) is).0 in
      let not_above : ltb after e.row.job ≡ false = le-ltb after e.row.job (omega (arith, same, below)) in
      rw not_above refl

  -- none of the first places is above
  pub skip_held : (n : ℕ) (ps : List Place) → list_all is_held_at ps ≡ true → ((i : ℕ) (d : Place) → i < n → i < length ps → (get_or ps i d).job ≤ after) → find above (held (drop n ps)) ≡ find above (held ps)
  skip_held zero ps each below = refl
  skip_held (suc n) [] each below = refl
  skip_held (suc n) (p ∷ ps) each below =
      let both = and_both (is_held_at p) (list_all is_held_at ps) each in
      skip_held n ps both.1 (λ i d less within. below (suc i) d (omega (arith, less)) (omega (arith, within)))
      ∙ sym (skip_onto p.job p.held (held ps) (below 0 p (omega arith) (omega arith)) both.0)

  onto_found : (o : Option OneJob) (es : List OneJob) → find above (onto o es) ≡ option_or (find above (onto o [])) (find above es)
  onto_found None es = refl
  onto_found (Some e) es = by (above e) refl
    where
      by : (b : Bool) → above e ≡ b → find above (e ∷ es) ≡ option_or (find above (e ∷ [])) (find above es)
      by true is = rw is refl
      by false is = rw is refl

  -- one place after another
  pub next_held : (ps : List Place) (i : ℕ) (p : Place) → i < length ps → p ≡ get_or ps i p → find above (held (drop i ps)) ≡ option_or (find above (onto p.held [])) (find above (held (drop (i + 1) ps)))
  next_held ps i p within is =
      ap (λ (qs : List Place). find above (held qs)) (drop_more ps i p within ∙ ap (λ (q : Place). q ∷ drop (i + 1) ps) (sym is)) ∙ onto_found p.held (held (drop (i + 1) ps))

-- ---- places that are closed up

module _ where
  closed_by : (o : Option OneJob) (key low high : ℕ) (ps : List Place) → low ≤ key → IsRising place_key (key + 1) ps high → is_some o ≡ false → IsRising place_key low ps high
  closed_by o key low high ps less rise none = rising_lower place_key low (key + 1) ps high (omega (arith, less)) rise

  pub closed_rise : (low : ℕ) (ps : List Place) (high : ℕ) → IsRising place_key low ps high → IsRising place_key low (filter is_taken ps) high
  closed_rise low [] high rise = rise
  closed_rise low (p ∷ ps) high rise = by (is_some p.held) refl (closed_rise (p.job + 1) ps high rise.1)
    where
      by : (b : Bool) → is_some p.held ≡ b → IsRising place_key (p.job + 1) (filter is_taken ps) high → IsRising place_key low (filter is_taken (p ∷ ps)) high
      by true is later = rw is (rise.0, later)
      by false is later = rw is (rising_lower place_key low (p.job + 1) (filter is_taken ps) high (omega (arith, rise.0)) later)

  pub closed_each : (ps : List Place) → list_all is_held_at ps ≡ true → list_all is_held_at (filter is_taken ps) ≡ true
  closed_each [] each = refl
  closed_each (p ∷ ps) each =
      let both = and_both (is_held_at p) (list_all is_held_at ps) each in
      by (is_some p.held) refl both.0 (closed_each ps both.1)
    where
      by : (b : Bool) → is_some p.held ≡ b → is_held_at p ≡ true → list_all is_held_at (filter is_taken ps) ≡ true → list_all is_held_at (filter is_taken (p ∷ ps)) ≡ true
      by true is here later = rw is (and_from (is_held_at p) (list_all is_held_at (filter is_taken ps)) here later)
      by false is here later = rw is later

  closed_onto : (o : Option OneJob) (p : Place) (qs : List Place) (es : List OneJob) → p.held ≡ o → held qs ≡ es → held (cond (is_some o) (p ∷ qs) qs) ≡ onto o es
  closed_onto None p qs es is later = later
  closed_onto (Some e) p qs es is later = rw is (ap (λ (xs : List OneJob). e ∷ xs) later)

  pub closed_held : (ps : List Place) → held (filter is_taken ps) ≡ held ps
  closed_held [] = refl
  closed_held (p ∷ ps) = closed_onto p.held p (filter is_taken ps) (held ps) refl (closed_held ps)

  count_onto : (o : Option OneJob) (p : Place) (qs : List Place) (es : List OneJob) → length qs ≡ length es → length (cond (is_some o) (p ∷ qs) qs) ≡ length (onto o es)
  count_onto None p qs es later = later
  count_onto (Some e) p qs es later = ap suc later

  -- each place holds a job then
  pub closed_count : (ps : List Place) → length (filter is_taken ps) ≡ length (held ps)
  closed_count [] = refl
  closed_count (p ∷ ps) = count_onto p.held p (filter is_taken ps) (held ps) (closed_count ps)
