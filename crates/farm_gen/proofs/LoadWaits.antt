-- The groups of a load's depend may come: each waits in a slot of the second layer for one of the first, and nothing runs.
use Rattle.std.proofs.Common.{◌≡◌, ℕ, ◌+◌, ◌-◌, ◌<◌, ◌≤◌, Bool, true, false, cond, eqb, List, [], ◌∷◌, ◌++◌, map, length, ℤ, refl, sym, ap, ◌∙◌, arith, subst}
use Rattle.std.specs.Prelude.{◌==◌, ◌≢◌, None, Some, Option, bytes_eq, codes, find, nat_le, nat_lt, not, slice_get}
use Rattle.std.specs.Cmp.Derive.{both_true}
use Rattle.std.specs.List.{list_all, list_any}
use Rattle.std.specs.Ordering.{int_eq}
use Rattle.std.proofs.lemmas.Bool.{eq-eqb, eqb-false, eqb-true, le-leb, le-ltb, leb-true, lt-ltb, ltb-true, ne_eqb, not-true, or_from}
use Rattle.std.proofs.lemmas.Cmp.{nat_list_eq_equiv}
use Rattle.std.proofs.lemmas.List.{map-append}
use Rattle.std.proofs.lemmas.List.Folds.{list_all-append}
use Rattle.farm_types.specs.declared.depend.Group.{Group}
use Rattle.farm_types.specs.declared.depend.LayerShape.{LayerShape}
use Rattle.farm_types.specs.declared.slot_row.SlotRow.{SlotRow}
use Rattle.farm_types.specs.DependActs.{groups_refusal, is_running, new_groups, depends_full, runs_already, runs_at, waits_for_itself}
use Rattle.farm_types.specs.Depends.{groups_left, groups_of, or_first, slot_placed, slots_placed}
use Rattle.farm_types.specs.Farm.{Farm, empty_farm, for_some, is_placed, slot_from}
use Rattle.farm_types.specs.Groups.{group_of, groups_by_number, slot_numbered}
use Rattle.farm_types.specs.Jobs.{frames_from, fresh_slot}
use Rattle.farm_types.specs.Ranges.{range_numbers}
use Rattle.farm_types.specs.Run.{IsLegal}
use Rattle.farm_types.specs.declared.limits.TheConstants.{MOST_GROUPS}
use Rattle.farm_types.proofs.Lists.{and_both, list_all-at}
use Rattle.farm_gen.specs.Load.{IsLoad, load_depend, load_entries, load_name, load_range, numbers_from}
use Rattle.farm_gen.proofs.LoadEnds.{legal_by_groups, submitted}
use Rattle.farm_gen.proofs.LoadRange.{numbers_long, range_says}

-- ---- the slots of the layers' frames

abbrev layer_slots : ℕ → ℕ → List ℤ → List SlotRow
layer_slots layer position ns = map fresh_slot (frames_from 1 layer position ns)

-- no frame of the first layer is one of the second
passed_over : (place wanted position : ℕ) (ns : List ℤ) (rest : List SlotRow)
    → slot_from place (is_placed 1 1 wanted) (layer_slots 0 position ns ++ rest) ≡ slot_from (place + length ns) (is_placed 1 1 wanted) rest
passed_over place wanted position [] rest =
    let here : place ≡ place + 0 = omega arith in
    ap (λ (k : ℕ). slot_from k (is_placed 1 1 wanted) rest) here
passed_over place wanted position (n ∷ ns) rest =
    let past : place + 1 + length ns ≡ place + length (n ∷ ns) = omega arith in
    passed_over (place + 1) wanted (position + 1) ns rest ∙ ap (λ (k : ℕ). slot_from k (is_placed 1 1 wanted) rest) past

found_step : (b : Bool) (place wanted position : ℕ) (later : Option ℕ) → eqb position wanted ≡ b → (b ≡ false → later ≡ Some (place + (wanted - position)))
    → cond b (Some place) later ≡ Some (place + (wanted - position))
found_step true place wanted position later same behind =
    let here : place ≡ place + (wanted - position) = omega (arith, eqb-true position wanted same) in
    ap (λ (k : ℕ). Some k) here
found_step false place wanted position later same behind = behind refl

-- each position of a layer has its frame
found : (layer place wanted position : ℕ) (ns : List ℤ) (rest : List SlotRow) → position ≤ wanted → wanted < position + length ns
    → slot_from place (is_placed 1 layer wanted) (layer_slots layer position ns ++ rest) ≡ Some (place + (wanted - position))
found layer place wanted position [] rest low high = absurd (omega (arith, low, high))
found layer place wanted position (n ∷ ns) rest low high =
    let own : eqb layer layer ≡ true = eq-eqb layer layer refl in
    rw own
    (found_step (eqb position wanted) place wanted position (slot_from (place + 1) (is_placed 1 layer wanted) (layer_slots layer (position + 1) ns ++ rest)) refl
    (λ other.
    let differ : position ≢ wanted = eqb-false position wanted other in
    let next : place + 1 + (wanted - (position + 1)) ≡ place + (wanted - position) = omega (arith, low, differ) in
    found layer (place + 1) wanted (position + 1) ns rest (omega (arith, low, differ)) (omega (arith, high)) ∙ ap (λ (k : ℕ). Some k) next))

-- ---- the slots of the job

abbrev job_slots : ℕ → List SlotRow
job_slots n = layer_slots 0 0 (numbers_from 1 n) ++ (layer_slots 1 0 (numbers_from 1 n) ++ [])

slots_are : (n : ℕ) → (submitted n).slots ≡ job_slots n
slots_are n =
    map-append fresh_slot (frames_from 1 0 0 (numbers_from 1 n)) (frames_from 1 1 0 (numbers_from 1 n) ++ [])
    ∙ ap (λ ss. layer_slots 0 0 (numbers_from 1 n) ++ ss) (map-append fresh_slot (frames_from 1 1 0 (numbers_from 1 n)) [])

first_at : (n position : ℕ) → position < n → slot_placed (job_slots n) 1 0 position ≡ position
first_at n position within =
    ap or_first (found 0 0 position 0 (numbers_from 1 n) (layer_slots 1 0 (numbers_from 1 n) ++ []) (omega arith) (omega (arith, numbers_long 1 n, within)))
    ∙ omega arith

second_at : (n position : ℕ) → position < n → slot_placed (job_slots n) 1 1 position ≡ n + position
second_at n position within =
    ap or_first
    (passed_over 0 position 0 (numbers_from 1 n) (layer_slots 1 0 (numbers_from 1 n) ++ [])
    ∙ found 1 (0 + length (numbers_from 1 n)) position 0 (numbers_from 1 n) [] (omega arith) (omega (arith, numbers_long 1 n, within)))
    ∙ omega (arith, numbers_long 1 n)

-- those of the first layer stand before those of the second
abbrev is_first : ℕ → ℕ → Bool
is_first n slot = nat_lt slot n

abbrev is_second : ℕ → ℕ → Bool
is_second n slot = nat_le n slot

all_first : (n position : ℕ) (ns : List ℤ) → position + length ns ≤ n → list_all (is_first n) (slots_placed (job_slots n) 1 0 position ns) ≡ true
all_first n position [] within = refl
all_first n position (m ∷ ns) within =
    both_true (lt-ltb (slot_placed (job_slots n) 1 0 position) n (omega (arith, first_at n position (omega (arith, within)), within)))
    (all_first n (position + 1) ns (omega (arith, within)))

all_second : (n position : ℕ) (ns : List ℤ) → position + length ns ≤ n → list_all (is_second n) (slots_placed (job_slots n) 1 1 position ns) ≡ true
all_second n position [] within = refl
all_second n position (m ∷ ns) within =
    both_true (le-leb n (slot_placed (job_slots n) 1 1 position) (omega (arith, second_at n position (omega (arith, within)))))
    (all_second n (position + 1) ns (omega (arith, within)))

-- ---- no frame waits for itself

numbered_step : (n slot : ℕ) (b : Bool) (later : List ℕ) → is_first n slot ≡ true → list_all (is_first n) later ≡ true
    → list_all (is_first n) (cond b (slot ∷ []) later) ≡ true
numbered_step n slot true later own rest = both_true own refl
numbered_step n slot false later own rest = rest

numbered_first : (n : ℕ) (number : ℤ) (ns : List ℤ) (ss : List ℕ) → list_all (is_first n) ss ≡ true → list_all (is_first n) (slot_numbered number ns ss) ≡ true
numbered_first n number [] ss all = refl
numbered_first n number (m ∷ ns) [] all = refl
numbered_first n number (m ∷ ns) (s ∷ ss) all =
    let parts = and_both (is_first n s) (list_all (is_first n) ss) all in
    numbered_step n s (int_eq m number) (slot_numbered number ns ss) parts.0 (numbered_first n number ns ss parts.1)

apart : (n waiter : ℕ) (targets : List ℕ) → is_second n waiter ≡ true → list_all (is_first n) targets ≡ true → list_any (λ t. t == waiter) targets ≡ false
apart n waiter [] second all = refl
apart n waiter (t ∷ ts) second all =
    let parts = and_both (is_first n t) (list_all (is_first n) ts) all in
    or_from (eqb t waiter) (list_any (λ s. s == waiter) ts)
    (ne_eqb t waiter (λ same. omega (arith, same, ltb-true t n parts.0, leb-true n waiter second))) (apart n waiter ts second parts.1)

group_apart : (n position waiter : ℕ) (any : Bool) (targets : List ℕ) (groups : List Group) → is_second n waiter ≡ true → list_all (is_first n) targets ≡ true
    → waits_for_itself groups ≡ None → waits_for_itself (group_of position any waiter targets ++ groups) ≡ None
group_apart n position waiter any [] groups second all rest = rest
group_apart n position waiter any (t ∷ ts) groups second all rest =
    let other : list_any (λ s. s == waiter) (t ∷ ts) ≡ false = apart n waiter (t ∷ ts) second all in
    rw other rest

none_for_itself : (n position : ℕ) (any : Bool) (ns : List ℤ) (ss : List ℕ) (target : LayerShape) → list_all (is_second n) ss ≡ true
    → list_all (is_first n) target.slots ≡ true → waits_for_itself (groups_by_number position any ns ss target) ≡ None
none_for_itself n position any [] ss target second first = refl
none_for_itself n position any (m ∷ ns) [] target second first = refl
none_for_itself n position any (m ∷ ns) (s ∷ ss) target second first =
    let parts = and_both (is_second n s) (list_all (is_second n) ss) second in
    group_apart n position s any (slot_numbered m target.numbers target.slots) (groups_by_number (position + 1) any ns ss target) parts.0
    (numbered_first n m target.numbers target.slots first) (none_for_itself n (position + 1) any ns ss target parts.1 first)

-- ---- nothing runs

abbrev runs : SlotRow → Bool
runs s = for_some s.frame (λ x. is_running x.state)

abbrev is_calm : SlotRow → Bool
is_calm s = not (runs s)

layer_calm : (layer position : ℕ) (ns : List ℤ) → list_all is_calm (layer_slots layer position ns) ≡ true
layer_calm layer position [] = refl
layer_calm layer position (n ∷ ns) = layer_calm layer (position + 1) ns

job_calm : (n : ℕ) → list_all is_calm (job_slots n) ≡ true
job_calm n =
    list_all-append is_calm (layer_slots 0 0 (numbers_from 1 n)) (layer_slots 1 0 (numbers_from 1 n) ++ [])
    ∙ both_true (layer_calm 0 0 (numbers_from 1 n))
    (list_all-append is_calm (layer_slots 1 0 (numbers_from 1 n)) [] ∙ both_true (layer_calm 1 0 (numbers_from 1 n)) refl)

calm_at : (o : Option SlotRow) → ((s : SlotRow) → o ≡ Some s → is_calm s ≡ true) → for_some o runs ≡ false
calm_at None calm = refl
calm_at (Some s) calm = not-true (runs s) (calm s refl)

find_none : (test : ℕ → Bool) (xs : List ℕ) → ((x : ℕ) → test x ≡ false) → find test xs ≡ None
find_none test [] fails = refl
find_none test (x ∷ xs) fails =
    let own : test x ≡ false = fails x in
    rw own (find_none test xs fails)

none_runs : (slots : List SlotRow) (groups : List Group) → list_all is_calm slots ≡ true → runs_already slots groups ≡ None
none_runs slots [] calm = refl
none_runs slots (g ∷ gs) calm =
    let own : find (runs_at slots) g.waiters ≡ None = find_none (runs_at slots) g.waiters (λ slot. calm_at (slice_get slots slot) (λ s at. list_all-at is_calm slots slot s calm at)) in
    rw own (none_runs slots gs calm)

-- ---- there is room

group_few : (position waiter : ℕ) (any : Bool) (targets : List ℕ) (groups : List Group) → length (group_of position any waiter targets ++ groups) ≤ 1 + length groups
group_few position waiter any [] groups = omega arith
group_few position waiter any (t ∷ ts) groups = omega arith

groups_few : (position : ℕ) (any : Bool) (ns : List ℤ) (ss : List ℕ) (target : LayerShape) → length (groups_by_number position any ns ss target) ≤ length ns
groups_few position any [] ss target = omega arith
groups_few position any (n ∷ ns) [] target = omega arith
groups_few position any (n ∷ ns) (s ∷ ss) target =
    omega (
      arith,
      group_few position s any (slot_numbered n target.numbers target.slots) (groups_by_number (position + 1) any ns ss target),
      groups_few (position + 1) any ns ss target,
    )

fits : (n : ℕ) (groups : List Group) → length groups ≤ 5000 → depends_full (submitted n) (length groups) ≡ None
fits n groups few =
    let room : nat_lt MOST_GROUPS (groups_left (submitted n) + length groups) ≡ false = le-ltb MOST_GROUPS (groups_left (submitted n) + length groups) (omega (arith, few)) in
    rw room refl

-- ---- the groups

abbrev first_layer : ℕ → LayerShape
first_layer n = record { name = codes "a"; numbers = numbers_from 1 n; slots = slots_placed (job_slots n) 1 0 0 (numbers_from 1 n) }

abbrev groups : ℕ → List Group
groups n = groups_by_number 0 false (numbers_from 1 n) (slots_placed (job_slots n) 1 1 0 (numbers_from 1 n)) (first_layer n)

abbrev groups_with : List SlotRow → List ℤ → List Group
groups_with slots ns = groups_by_number 0 false ns (slots_placed slots 1 1 0 ns) (record { name = codes "a"; numbers = ns; slots = slots_placed slots 1 0 0 ns })

groups_said : (n : ℕ) → new_groups (submitted n) (load_depend n) ≡ groups_with (submitted n).slots (range_numbers (load_range n))
unfolding groups_of
groups_said n =
    let named : bytes_eq (load_name n) (load_name n) ≡ true = nat_list_eq_equiv.refl (load_name n) in
    rw named refl

groups_are : (n : ℕ) → IsLoad n → new_groups (submitted n) (load_depend n) ≡ groups n
groups_are n load = groups_said n ∙ (λ i. groups_with (slots_are n i) (range_says n load i))

refuses_none : (f : Farm) (gs : List Group) → waits_for_itself gs ≡ None → runs_already f.slots gs ≡ None → depends_full f (length gs) ≡ None → groups_refusal f gs ≡ None
refuses_none f gs alone calm full = rw (alone, calm) full

none_refused : (n : ℕ) → IsLoad n → groups_refusal (submitted n) (groups n) ≡ None
none_refused n load =
    refuses_none (submitted n) (groups n)
    (none_for_itself n 0 false (numbers_from 1 n) (slots_placed (job_slots n) 1 1 0 (numbers_from 1 n)) (first_layer n)
    (all_second n 0 (numbers_from 1 n) (omega (arith, numbers_long 1 n))) (all_first n 0 (numbers_from 1 n) (omega (arith, numbers_long 1 n))))
    (none_runs (submitted n).slots (groups n) (subst (λ (slots : List SlotRow). list_all is_calm slots ≡ true) (sym (slots_are n)) (job_calm n)))
    (fits n (groups n)
    (omega (arith, groups_few 0 false (numbers_from 1 n) (slots_placed (job_slots n) 1 1 0 (numbers_from 1 n)) (first_layer n), numbers_long 1 n, load.within)))

-- ---- the law

pub loads_legal : (n : ℕ) → IsLoad n → IsLegal empty_farm (load_entries n)
loads_legal n load =
    legal_by_groups n load (subst (λ (gs : List Group). groups_refusal (submitted n) gs ≡ None) (sym (groups_are n load)) (none_refused n load))
