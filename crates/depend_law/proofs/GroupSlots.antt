-- The slots of a depend's groups: some of those of its two jobs, none twice, at positions that rise.
use Rattle.std.proofs.Common.{◌≡◌, ℕ, suc, zero, ◌+◌, ◌≤◌, Bool, true, false, cond, List, [], ◌∷◌, ◌++◌, length, Option, Some, None, ℤ, sym, subst, append-nil, arith}
use Rattle.std.specs.Prelude.{bytes_eq}
use Rattle.std.specs.List.{find, flat_map, slice_get}
use Rattle.std.specs.Ordering.{int_eq}
use Rattle.std.proofs.lemmas.Option.{none-some, same_Some}
use Rattle.farm_types.specs.declared.depend.DependKind.{DependKind}
use Rattle.farm_types.specs.declared.depend.DependKind.TheVariants.{JobOnJob, JobOnLayer, JobOnFrame, LayerOnJob, LayerOnLayer, LayerOnFrame, FrameOnJob, FrameOnLayer, FrameOnFrame, FrameByFrame, PreviousFrame}
use Rattle.farm_types.specs.declared.depend.Group.{Group}
use Rattle.farm_types.specs.declared.depend.LayerShape.{LayerShape}
use Rattle.farm_types.specs.declared.depend.Shape.{Shape}
use Rattle.farm_types.specs.Groups.{Part, all_slots, group_of, groups_by, groups_by_number, groups_in_step, groups_of_previous, layer_called, layer_of_part, or_no_layer, slot_numbered, slots_at, slots_of_layer, slots_of_part}
use Rattle.farm_types.specs.Rising.{IsRising}
use Rattle.depend_law.proofs.Among.{Among, among_cons, among_left, among_none, among_right, among_same, among_skip, among_then, rising_from}

-- ---- the slots that an end names

numbered_step : (b : Bool) (s : ℕ) (found ss : List ℕ) → Among found ss → Among (cond b (s ∷ []) found) (s ∷ ss)
numbered_step true s found ss later = among_cons s [] ss (among_none ss)
numbered_step false s found ss later = among_skip s found ss later

-- the slot of one number
pub numbered_among : (number : ℤ) (ns : List ℤ) (ss : List ℕ) → Among (slot_numbered number ns ss) ss
numbered_among number [] ss = among_none ss
numbered_among number (n ∷ ns) [] = among_none []
numbered_among number (n ∷ ns) (s ∷ ss) = numbered_step (int_eq n number) s (slot_numbered number ns ss) ss (numbered_among number ns ss)

part_among : (l : LayerShape) (frame : Option ℤ) → Among (slots_of_part l frame) l.slots
part_among l None = among_same l.slots
part_among l (Some number) = numbered_among number l.numbers l.slots

called_step : (name : List ℕ) (b : Bool) (l : LayerShape) (ls : List LayerShape) → Among (layer_called name ls).slots (all_slots ls)
    → Among (or_no_layer (cond b (Some l) (find (λ (k : LayerShape). bytes_eq k.name name) ls))).slots (l.slots ++ all_slots ls)
called_step name true l ls later = among_left l.slots (all_slots ls)
called_step name false l ls later = among_then (layer_called name ls).slots (all_slots ls) (l.slots ++ all_slots ls) later (among_right l.slots (all_slots ls))

-- a layer's are some of the job's
pub called_among : (name : List ℕ) (ls : List LayerShape) → Among (layer_called name ls).slots (all_slots ls)
called_among name [] = among_none []
called_among name (l ∷ ls) = called_step name (bytes_eq l.name name) l ls (called_among name ls)

layer_among : (ls : List LayerShape) (name : Option (List ℕ)) → Among (layer_of_part ls name).slots (all_slots ls)
layer_among ls None = among_none (all_slots ls)
layer_among ls (Some name) = called_among name ls

-- and so are those that an end names
pub end_among : (ls : List LayerShape) (name : Option (List ℕ)) (frame : Option ℤ) → Among (slots_of_layer ls name frame) (all_slots ls)
end_among ls None frame = among_same (all_slots ls)
end_among ls (Some name) frame =
    among_then (slots_of_part (layer_called name ls) frame) (layer_called name ls).slots (all_slots ls) (part_among (layer_called name ls) frame) (called_among name ls)

-- ---- groups

abbrev pub group_key : Group → ℕ
group_key g = g.position

-- all that wait, group by group
abbrev pub all_waiters : List Group → List ℕ
all_waiters groups = flat_map (λ (g : Group). g.waiters) groups

-- Positions rise, those who wait are some of the one list and none twice, and the targets of each group are some of the other.
pub record GroupsAmong (low high : ℕ) (waiters targets : List ℕ) (groups : List Group) : Type 0 where
  pub rise : IsRising group_key low groups high
  pub wait : Among (all_waiters groups) waiters
  pub wait_for : (n : ℕ) (g : Group) → slice_get groups n ≡ Some g → Among g.targets targets

no_groups : (low high : ℕ) (waiters targets : List ℕ) → low ≤ high → GroupsAmong low high waiters targets []
no_groups low high waiters targets within = record { rise = within; wait = among_none waiters; wait_for = λ n g at. absurd (none-some g at) }

-- one group more in front, of one slot
one_more : (low high s : ℕ) (ss targets first : List ℕ) (any : Bool) (groups : List Group) → Among first targets → GroupsAmong (low + 1) high ss targets groups
    → GroupsAmong low high (s ∷ ss) targets (record { position = low; waiters = s ∷ []; targets = first; any = any } ∷ groups)
one_more low high s ss targets first any groups own later =
    record { rise = (omega arith, later.rise); wait = among_cons s (all_waiters groups) ss later.wait; wait_for = wait_for }
  where
    wait_for : (n : ℕ) (g : Group) → slice_get (record { position = low; waiters = s ∷ []; targets = first; any = any } ∷ groups) n ≡ Some g → Among g.targets targets
    wait_for zero g at = subst (λ (k : Group). Among k.targets targets) (same_Some (record { position = low; waiters = s ∷ []; targets = first; any = any }) g at) own
    wait_for (suc n) g at = later.wait_for n g at

-- none for the first slot
none_more : (low high s : ℕ) (ss targets : List ℕ) (groups : List Group) → GroupsAmong (low + 1) high ss targets groups → GroupsAmong low high (s ∷ ss) targets groups
none_more low high s ss targets groups later =
    record { rise = rising_from group_key low (low + 1) groups high (omega arith) later.rise; wait = among_skip s (all_waiters groups) ss later.wait; wait_for = later.wait_for }

number_step : (low high s : ℕ) (ss targets first : List ℕ) (any : Bool) (groups : List Group) → Among first targets → GroupsAmong (low + 1) high ss targets groups
    → GroupsAmong low high (s ∷ ss) targets (group_of low any s first ++ groups)
number_step low high s ss targets [] any groups own later = none_more low high s ss targets groups later
number_step low high s ss targets (t ∷ ts) any groups own later = one_more low high s ss targets (t ∷ ts) any groups own later

by_number : (low high : ℕ) (any : Bool) (ns : List ℤ) (ss : List ℕ) (target : LayerShape) → low + length ss ≤ high → GroupsAmong low high ss target.slots (groups_by_number low any ns ss target)
by_number low high any [] ss target few = no_groups low high ss target.slots (omega (arith, few))
by_number low high any (n ∷ ns) [] target few = no_groups low high [] target.slots (omega (arith, few))
by_number low high any (n ∷ ns) (s ∷ ss) target few =
    number_step low high s ss target.slots (slot_numbered n target.numbers target.slots) any (groups_by_number (low + 1) any ns ss target)
    (numbered_among n target.numbers target.slots) (by_number (low + 1) high any ns ss target (omega arith))

-- more targets
more_targets : (low high t : ℕ) (ss ts : List ℕ) (groups : List Group) → GroupsAmong low high ss ts groups → GroupsAmong low high ss (t ∷ ts) groups
more_targets low high t ss ts groups h = record { rise = h.rise; wait = h.wait; wait_for = λ n g at. among_skip t g.targets ts (h.wait_for n g at) }

in_step : (low high : ℕ) (any : Bool) (ss ts : List ℕ) → low + length ss ≤ high → GroupsAmong low high ss ts (groups_in_step low any ss ts)
in_step low high any [] ts few = no_groups low high [] ts (omega (arith, few))
in_step low high any (s ∷ ss) [] few = no_groups low high (s ∷ ss) [] (omega (arith, few))
in_step low high any (s ∷ ss) (t ∷ ts) few =
    one_more low high s ss (t ∷ ts) (t ∷ []) any (groups_in_step (low + 1) any ss ts) (among_cons t [] ts (among_none ts))
    (more_targets (low + 1) high t ss ts (groups_in_step (low + 1) any ss ts) (in_step (low + 1) high any ss ts (omega arith)))

of_previous : (high : ℕ) (any : Bool) (ss ts : List ℕ) → length ss ≤ high → GroupsAmong 0 high ss ts (groups_of_previous any ss ts)
of_previous high any [] ts few = no_groups 0 high [] ts (omega arith)
of_previous high any (s ∷ ss) ts few =
    none_more 0 high s ss ts (groups_in_step 1 any ss ts) (in_step 1 high any ss ts (omega arith))

-- all of the one end for all of the other
at_once : (high : ℕ) (any : Bool) (waiters targets ws ts : List ℕ) → 1 ≤ high → Among ws waiters → Among ts targets
    → GroupsAmong 0 high waiters targets (record { position = 0; waiters = ws; targets = ts; any = any } ∷ [])
at_once high any waiters targets ws ts some wait wait_for = record { rise = (omega arith, omega (arith, some)); wait = all; wait_for = each }
  where
    all : Among (ws ++ []) waiters
    all = subst (λ (xs : List ℕ). Among xs waiters) (sym (append-nil ws)) wait

    each : (n : ℕ) (g : Group) → slice_get (record { position = 0; waiters = ws; targets = ts; any = any } ∷ []) n ≡ Some g → Among g.targets targets
    each zero g at = subst (λ (k : Group). Among k.targets targets) (same_Some (record { position = 0; waiters = ws; targets = ts; any = any }) g at) wait_for
    each (suc n) g at = absurd (none-some g at)

-- fewer of each
wider : (low high : ℕ) (ws ts waiters targets : List ℕ) (groups : List Group) → Among ws waiters → Among ts targets → GroupsAmong low high ws ts groups → GroupsAmong low high waiters targets groups
wider low high ws ts waiters targets groups some other h =
    record {
      rise = h.rise;
      wait = among_then (all_waiters groups) ws waiters h.wait some;
      wait_for = λ n g at. among_then g.targets ts targets (h.wait_for n g at) other;
    }

module _ (high : ℕ) (any : Bool) (waiter target : Part) (waiters targets : Shape) (some : 1 ≤ high) (few : length (all_slots waiters.layers) ≤ high) where
  ends : GroupsAmong 0 high (all_slots waiters.layers) (all_slots targets.layers) (record { position = 0; waiters = slots_at waiters waiter; targets = slots_at targets target; any = any } ∷ [])
  ends =
      at_once high any (all_slots waiters.layers) (all_slots targets.layers) (slots_at waiters waiter) (slots_at targets target) some
      (end_among waiters.layers waiter.layer waiter.frame) (end_among targets.layers target.layer target.frame)

  few_in_layer : length (layer_of_part waiters.layers waiter.layer).slots ≤ high
  few_in_layer = omega (arith, few, (layer_among waiters.layers waiter.layer).count)

  -- a depend's groups
  pub groups_among : (kind : DependKind) → GroupsAmong 0 high (all_slots waiters.layers) (all_slots targets.layers) (groups_by kind any waiter target waiters targets)
  groups_among FrameByFrame =
      let own = layer_of_part waiters.layers waiter.layer in
      let other = layer_of_part targets.layers target.layer in
      wider 0 high own.slots other.slots (all_slots waiters.layers) (all_slots targets.layers) (groups_by_number 0 any own.numbers own.slots other)
      (layer_among waiters.layers waiter.layer) (layer_among targets.layers target.layer) (by_number 0 high any own.numbers own.slots other (omega (arith, few_in_layer)))
  groups_among PreviousFrame =
      let own = layer_of_part waiters.layers waiter.layer in
      let other = layer_of_part targets.layers target.layer in
      wider 0 high own.slots other.slots (all_slots waiters.layers) (all_slots targets.layers) (groups_of_previous any own.slots other.slots)
      (layer_among waiters.layers waiter.layer) (layer_among targets.layers target.layer) (of_previous high any own.slots other.slots few_in_layer)
  groups_among JobOnJob = ends
  groups_among JobOnLayer = ends
  groups_among JobOnFrame = ends
  groups_among LayerOnJob = ends
  groups_among LayerOnLayer = ends
  groups_among LayerOnFrame = ends
  groups_among FrameOnJob = ends
  groups_among FrameOnLayer = ends
  groups_among FrameOnFrame = ends

-- who waits in one group waits in one of all
pub group_waiters : (groups : List Group) (n : ℕ) (g : Group) → slice_get groups n ≡ Some g → Among g.waiters (all_waiters groups)
group_waiters [] n g at = absurd (none-some g at)
group_waiters (k ∷ ks) zero g at = subst (λ (h : Group). Among h.waiters (k.waiters ++ all_waiters ks)) (same_Some k g at) (among_left k.waiters (all_waiters ks))
group_waiters (k ∷ ks) (suc n) g at = among_then g.waiters (all_waiters ks) (k.waiters ++ all_waiters ks) (group_waiters ks n g at) (among_right k.waiters (all_waiters ks))
