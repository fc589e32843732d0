-- The faults of depends after the last row, over what is kept.
use Rattle.std.proofs.Common.{◌≡◌, ◌∙◌, ◌<◌, ℕ, ◌+◌, Bool, true, false, cond, not, ◌&&◌, ◌||◌, List, [], ◌∷◌, map, length, Option, Some, None, refl, sym, ap, arith}
use Rattle.std.specs.Prelude.{is_some, option_map}
use Rattle.std.specs.List.{find, list_all, list_any}
use Rattle.std.proofs.lemmas.Bool.{false≢true}
use Rattle.farm_types.specs.declared.depend.DependRow.{DependRow}
use Rattle.farm_types.specs.declared.depend.Group.{Group}
use Rattle.farm_types.specs.declared.depend.MetRow.{MetRow}
use Rattle.farm_types.specs.declared.slot_row.SlotRow.{SlotRow}
use Rattle.farm_types.specs.Booking.{is_waiting}
use Rattle.farm_types.specs.DependActs.{is_running, or_else}
use Rattle.farm_types.specs.Depends.{are_done, groups_of, is_done, is_marked, is_open, waits_in}
use Rattle.farm_types.specs.Farm.{Farm, for_some}
use Rattle.farm_types.specs.Finish.{finishes}
use Rattle.farm_types.specs.Kept.{EachThere, runs_unmet}
use Rattle.farm_types.specs.Settle.{is_blocked, opens}
use Rattle.farm_rows.specs.Recovery.{StoredKey, end_fault, first_depend, first_job, first_layer, first_slot, groups_so_far, head_ends, is_wrongly_marked, lacks_frames, lacks_limit, lacks_slots}
use Rattle.farm_rows.proofs.Faultless.{each_there, groups_alike, neither, none_told}
use Rattle.stored_rows.specs.Told.{early_fault}
use Rattle.stored_farm.specs.Ends.{first_flagged, first_stuck, first_wrong, goes_on, hangs, is_marked_in, is_marked_wrongly, is_set, lacks_mark, waits_unmarked, waits_unmet}
use Rattle.stored_farm.specs.Kept.{groups_kept, with_depends}
use Rattle.stored_farm.proofs.JudgedSame.{of_beside}

-- ---- one after the other

pub or_some : {X : Type 0} (first second : Option X) → is_some first ≡ true → first ≡ or_else first second
or_some None second h = absurd (false≢true h)
or_some (Some x) second h = refl

pub or_none : {X : Type 0} (first second : Option X) → is_some first ≡ false → or_else first second ≡ second
or_none None second h = refl
or_none (Some x) second h = absurd (false≢true (sym h))

none_is : {X : Type 0} (o : Option X) → is_some o ≡ false → o ≡ None
none_is None h = refl
none_is (Some x) h = absurd (false≢true (sym h))

or_assoc : {X : Type 0} (a b c : Option X) → or_else (or_else a b) c ≡ or_else a (or_else b c)
or_assoc None b c = refl
or_assoc (Some x) b c = refl

abbrev pub late_fault : Farm → Option StoredKey
late_fault f = or_else (first_depend (is_wrongly_marked f) f.depends) (or_else (first_slot (runs_unmet f) 0 f.slots) (first_slot (opens f) 0 f.slots))

-- the faults of depends come last
pub all_faults : (f : Farm) → end_fault f ≡ or_else (early_fault f) (late_fault f)
all_faults f =
    let a = first_layer (lacks_limit f) f.layers in
    let b = head_ends f in
    let c = first_job (lacks_frames f) f.jobs in
    let d = first_layer (lacks_slots f) f.layers in
    let e = first_job (finishes f.slots) f.jobs in
    let late = late_fault f in
    sym
    (or_assoc a (or_else b (or_else c (or_else d e))) late
    ∙ ap (or_else a) (or_assoc b (or_else c (or_else d e)) late ∙ ap (or_else b) (or_assoc c (or_else d e) late ∙ ap (or_else c) (or_assoc d e late))))

-- all frames are there
all_there : (f : Farm) → early_fault f ≡ None → EachThere f.layers f.slots
all_there f e =
    let limits = neither (first_layer (lacks_limit f) f.layers) _ e in
    let head = neither (head_ends f) _ limits.1 in
    let frames = neither (first_job (lacks_frames f) f.jobs) _ head.1 in
    let slots = neither (first_layer (lacks_slots f) f.layers) _ frames.1 in
    each_there f (none_told _ (lacks_slots f) f.layers slots.0)

-- ---- depends

lacks_by : (m done : Bool) → (not m && (m || done)) ≡ (not m && done)
lacks_by true done = refl
lacks_by false done = refl

all_true : (gs : List Group) → list_all (λ (g : Group). true) gs ≡ true
all_true [] = refl
all_true (g ∷ gs) = all_true gs

open_step : (a b rest any : Bool) → rest ≡ not any → ((a || not b) && rest) ≡ not ((not a && b) || any)
open_step true b rest any e = e
open_step false true rest any e = refl
open_step false false rest any e = e

none_waits : (p q : Group → Bool) (gs : List Group) → list_all (λ (g : Group). p g || not (q g)) gs ≡ not (list_any (λ (g : Group). not (p g) && q g) gs)
none_waits p q [] = refl
none_waits p q (g ∷ gs) = open_step (p g) (q g) (list_all (λ (h : Group). p h || not (q h)) gs) (list_any (λ (h : Group). not (p h) && q h) gs) (none_waits p q gs)

both_open : (a b : Bool) → (not a && not b) ≡ not (a || b)
both_open true b = refl
both_open false b = refl

not_not : (b : Bool) → not (not b) ≡ b
not_not true = refl
not_not false = refl

module _ (f : Farm) (ds : List DependRow) (ms : List MetRow) (fine : early_fault f ≡ None) where
  same_groups : (d : DependRow) → groups_of (with_depends f ds ms) d ≡ groups_so_far f d
  same_groups d = of_beside f ds ms d ∙ sym (groups_alike f (all_there f fine) d)

  wrong_by : (d : DependRow) (b : Bool)
      → (not b && (list_all (λ (g : Group). b || is_marked (with_depends f ds ms) d g) (groups_of (with_depends f ds ms) d)
      || list_any (λ (g : Group). not (b || is_marked (with_depends f ds ms) d g) && ((b || is_marked (with_depends f ds ms) d g) || are_done (is_done f.slots) g)) (groups_of (with_depends f ds ms) d)))
      ≡ (not b && (list_all (is_marked_in ms d.depend) (cond b [] (groups_so_far f d)) || list_any (lacks_mark ms f.slots d.depend) (cond b [] (groups_so_far f d))))
  wrong_by d true = refl
  wrong_by d false =
      λ i. list_all (is_marked_in ms d.depend) (same_groups d i) || list_any (λ (g : Group). lacks_by (is_marked_in ms d.depend g) (are_done (is_done f.slots) g) i) (same_groups d i)

  wrong_is : (d : DependRow) → is_wrongly_marked (with_depends f ds ms) d ≡ is_marked_wrongly ms f.slots d (groups_kept f d)
  wrong_is d = wrong_by d d.met_all

  wrong_step : (b : Bool) (d : DependRow) (o : Option DependRow) (later : Option StoredKey) → option_map (λ (e : DependRow). (9, e.depend)) o ≡ later
      → option_map (λ (e : DependRow). (9, e.depend)) (cond b (Some d) o) ≡ cond b (Some (9, d.depend)) later
  wrong_step true d o later e = refl
  wrong_step false d o later e = e

  wrong_same : (xs : List DependRow) → first_depend (is_wrongly_marked (with_depends f ds ms)) xs ≡ first_wrong ms f.slots xs (map (groups_kept f) xs)
  wrong_same [] = refl
  wrong_same (d ∷ xs) =
      let later = first_wrong ms f.slots xs (map (groups_kept f) xs) in
      wrong_step (is_wrongly_marked (with_depends f ds ms) d) d (find (is_wrongly_marked (with_depends f ds ms)) xs) later (wrong_same xs)
      ∙ ap (λ (b : Bool). cond b (Some (9, d.depend)) later) (wrong_is d)

  -- ---- frames

  open_by : (slot : ℕ) (d : DependRow) (b : Bool) → list_all (λ (g : Group). (b || is_marked (with_depends f ds ms) d g) || not (waits_in slot g)) (groups_of (with_depends f ds ms) d)
      ≡ not (waits_unmarked ms d.depend (cond b [] (groups_so_far f d)) slot)
  open_by slot d true = all_true (groups_of (with_depends f ds ms) d)
  open_by slot d false =
      ap (λ (gs : List Group). list_all (λ (g : Group). is_marked_in ms d.depend g || not (waits_in slot g)) gs) (same_groups d)
      ∙ none_waits (is_marked_in ms d.depend) (waits_in slot) (groups_so_far f d)

  open_same : (slot : ℕ) (xs : List DependRow)
      → list_all (λ (d : DependRow). list_all (λ (g : Group). (d.met_all || is_marked (with_depends f ds ms) d g) || not (waits_in slot g)) (groups_of (with_depends f ds ms) d)) xs ≡ not (waits_unmet ms xs (map (groups_kept f) xs) slot)
  open_same slot [] = refl
  open_same slot (d ∷ xs) =
      (λ i. open_by slot d d.met_all i && open_same slot xs i) ∙ both_open (waits_unmarked ms d.depend (groups_kept f d) slot) (waits_unmet ms xs (map (groups_kept f) xs) slot)

  open_is : (slot : ℕ) → is_open (with_depends f ds ms) slot ≡ not (waits_unmet ms ds (map (groups_kept f) ds) slot)
  open_is slot = open_same slot ds

  slot_step : (b c : Bool) (place : ℕ) (first later : Option StoredKey) → b ≡ c → first ≡ later → cond b (Some (8, place)) first ≡ cond c (Some (8, place)) later
  slot_step b c place first later e rest = λ i. cond (e i) (Some (8, place)) (rest i)

  slots_same : (old : ℕ → SlotRow → Bool) (test : Bool → SlotRow → Bool) (flags : List Bool) (place : ℕ) (ss : List SlotRow) → ((p : ℕ) (s : SlotRow) → p < place + length ss → old p s ≡ test (is_set flags p) s)
      → first_slot old place ss ≡ first_flagged test flags place ss
  slots_same old test flags place [] same = refl
  slots_same old test flags place (s ∷ ss) same =
      slot_step (old place s) (test (is_set flags place) s) place (first_slot old (place + 1) ss) (first_flagged test flags (place + 1) ss) (same place s (omega arith))
      (slots_same old test flags (place + 1) ss (λ p t below. same p t (omega (arith, below))))

  module _ (flags : List Bool) (are : (slot : ℕ) → slot < length f.slots → is_set flags slot ≡ waits_unmet ms ds (map (groups_kept f) ds) slot) where
    runs_same : (p : ℕ) (s : SlotRow) → p < 0 + length f.slots → runs_unmet (with_depends f ds ms) p s ≡ goes_on (is_set flags p) s
    runs_same p s below =
        ap (λ (b : Bool). for_some s.frame (λ x. is_waiting x.state || is_running x.state) && b) (ap not (open_is p) ∙ (not_not (waits_unmet ms ds (map (groups_kept f) ds) p) ∙ sym (are p (omega (arith, below)))))

    opens_same : (p : ℕ) (s : SlotRow) → p < 0 + length f.slots → opens (with_depends f ds ms) p s ≡ hangs (is_set flags p) s
    opens_same p s below = ap (λ (b : Bool). for_some s.frame (λ x. is_blocked x.state) && b) (open_is p ∙ ap not (sym (are p (omega (arith, below)))))

    -- the faults of depends and of frames
    pub late_same : late_fault (with_depends f ds ms) ≡ or_else (first_wrong ms f.slots ds (map (groups_kept f) ds)) (first_stuck flags f.slots)
    late_same =
        let runs = slots_same (runs_unmet (with_depends f ds ms)) goes_on flags 0 f.slots runs_same in
        let blocked = slots_same (opens (with_depends f ds ms)) hangs flags 0 f.slots opens_same in
        λ i. or_else (wrong_same ds i) (or_else (runs i) (blocked i))

    pub stuck_is : is_some (first_wrong ms f.slots ds (map (groups_kept f) ds)) ≡ false → end_fault (with_depends f ds ms) ≡ first_stuck flags f.slots
    stuck_is none =
        all_faults (with_depends f ds ms) ∙ (ap (λ (o : Option StoredKey). or_else o (late_fault (with_depends f ds ms))) fine
        ∙ (late_same ∙ or_none (first_wrong ms f.slots ds (map (groups_kept f) ds)) (first_stuck flags f.slots) none))

  pub wrong_first : is_some (first_wrong ms f.slots ds (map (groups_kept f) ds)) ≡ true → first_wrong ms f.slots ds (map (groups_kept f) ds) ≡ end_fault (with_depends f ds ms)
  wrong_first some =
      let first = first_wrong ms f.slots ds (map (groups_kept f) ds) in
      let rest = or_else (first_slot (runs_unmet (with_depends f ds ms)) 0 f.slots) (first_slot (opens (with_depends f ds ms)) 0 f.slots) in
      or_some first rest some ∙ (ap (λ (o : Option StoredKey). or_else o rest) (sym (wrong_same ds))
      ∙ sym (all_faults (with_depends f ds ms) ∙ ap (λ (o : Option StoredKey). or_else o (late_fault (with_depends f ds ms))) fine))

-- an early fault is the first
pub early_first : (f : Farm) (ds : List DependRow) (ms : List MetRow) → is_some (early_fault f) ≡ true → early_fault f ≡ end_fault (with_depends f ds ms)
early_first f ds ms some = or_some (early_fault f) (late_fault (with_depends f ds ms)) some ∙ sym (all_faults (with_depends f ds ms))

pub no_early : (f : Farm) (ds : List DependRow) (ms : List MetRow) → is_some (early_fault f) ≡ false → early_fault (with_depends f ds ms) ≡ None
no_early f ds ms none = none_is (early_fault f) none
