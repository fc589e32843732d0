-- Who waits and for whom: what the groups of a depend have of its jobs' slots.
use Rattle.std.proofs.Common.{◌≡◌, ℕ, suc, zero, ◌≤◌, Bool, true, ltb, List, [], ◌∷◌, ◌++◌, length, Some, refl, sym, ap, subst, arith}
use Rattle.std.specs.Prelude.{nat_eq}
use Rattle.std.specs.List.{IsDistinct, list_all, slice_get}
use Rattle.std.proofs.lemmas.Bool.{lt-ltb}
use Rattle.std.proofs.lemmas.Option.{none-some, same_Some, slice_get_within}
use Rattle.farm_types.specs.declared.depend.DependEnd.{DependEnd}
use Rattle.farm_types.specs.declared.depend.DependRow.{DependRow}
use Rattle.farm_types.specs.declared.depend.Group.{Group}
use Rattle.farm_types.specs.declared.limits.TheConstants.{MOST_FRAMES, SLOT_LIMIT}
use Rattle.farm_types.specs.Depends.{groups_of, shape_in, waits_in}
use Rattle.farm_types.specs.Farm.{Farm, layers_of}
use Rattle.farm_types.specs.Groups.{all_slots, groups_by, part_at}
use Rattle.farm_types.specs.Kept.{KeepsRows, has_part, is_end_there, is_of_pending}
use Rattle.farm_types.specs.Rising.{IsRising}
use Rattle.farm_types.proofs.Lists.{and_both, list_all-from_at}
use Rattle.depend_law.proofs.Among.{Among, In, among_right, among_then, apart_in, in_from_any, rising_once}
use Rattle.depend_law.proofs.Placed.{HoldsOf, ShapeHolds, shape_holds}
use Rattle.depend_law.proofs.GroupSlots.{group_waiters, groups_among}
pub use Rattle.depend_law.proofs.GroupSlots.{all_waiters, group_key}

-- the slot is one of the farm's
abbrev pub is_slot : ℕ → Bool
is_slot slot = ltb slot SLOT_LIMIT

-- Slots of one end: each holds a frame of the job and is one of the farm's, and none stands twice.
pub record SlotsOf (f : Farm) (job : ℕ) (slots : List ℕ) : Type 0 where
  pub hold : (k slot : ℕ) → slice_get slots k ≡ Some slot → HoldsOf f.slots job slot
  pub differ : IsDistinct nat_eq slots
  pub within : list_all is_slot slots ≡ true

-- Positions of groups rise. Those who wait differ, over all groups, and are at most as many as a job has frames.
pub record DependHolds (f : Farm) (d : DependRow) (groups : List Group) : Type 0 where
  pub rise : IsRising group_key 0 groups MOST_FRAMES
  pub all : SlotsOf f d.waiter.job (all_waiters groups)
  pub count : length (all_waiters groups) ≤ MOST_FRAMES
  pub waiters : (n : ℕ) (g : Group) → slice_get groups n ≡ Some g → SlotsOf f d.waiter.job g.waiters
  pub targets : (n : ℕ) (g : Group) → slice_get groups n ≡ Some g → SlotsOf f d.target.job g.targets

module _ (f : Farm) (k : KeepsRows f) where
  some_hold : (job : ℕ) (slots : List ℕ) → ShapeHolds f.layers f.slots job → Among slots (all_slots (shape_in f.layers f.slots job).layers) → SlotsOf f job slots
  some_hold job slots shape some =
      record {
        hold = hold;
        differ = some.differ shape.differ;
        within = list_all-from_at is_slot slots
            (λ n slot at.
            let h = (hold n slot at).1 in
            lt-ltb slot SLOT_LIMIT (omega (arith, slice_get_within f.slots slot h.row h.at, k.jobs.slot_count)));
      }
    where
      hold : (n slot : ℕ) → slice_get slots n ≡ Some slot → HoldsOf f.slots job slot
      hold n slot at = let there = some.members n slot at in shape.each there.0 slot there.1

  pub job_shape : (job : ℕ) → is_of_pending f.jobs job ≡ true → ShapeHolds f.layers f.slots job
  job_shape job pending = shape_holds _ (length f.shows) k.jobs job pending

  -- the job of an end that is there is pending
  pub end_pending : (e : DependEnd) → is_end_there f e ≡ true → is_of_pending f.jobs e.job ≡ true
  end_pending e there = (and_both (is_of_pending f.jobs e.job) (has_part (layers_of f.layers e.job) e.layer e.frame) there).0

  pub depend_holds : (d : DependRow) → is_end_there f d.waiter ≡ true → is_end_there f d.target ≡ true → DependHolds f d (groups_of f d)
  unfolding groups_of
  depend_holds d waiter target =
      let waits = job_shape d.waiter.job (end_pending d.waiter waiter) in
      let waited = job_shape d.target.job (end_pending d.target target) in
      let some = groups_among MOST_FRAMES d.any (part_at d.waiter) (part_at d.target) (shape_in f.layers f.slots d.waiter.job) (shape_in f.layers f.slots d.target.job) (omega arith) waits.most d.kind in
      let groups = groups_by d.kind d.any (part_at d.waiter) (part_at d.target) (shape_in f.layers f.slots d.waiter.job) (shape_in f.layers f.slots d.target.job) in
      record {
        rise = some.rise;
        all = some_hold d.waiter.job (all_waiters groups) waits some.wait;
        count = omega (arith, some.wait.count, waits.most);
        waiters = λ n g at.
            some_hold d.waiter.job g.waiters waits
            (among_then g.waiters (all_waiters groups) (all_slots (shape_in f.layers f.slots d.waiter.job).layers) (group_waiters groups n g at) some.wait);
        targets = λ n g at. some_hold d.target.job g.targets waited (some.wait_for n g at);
      }

-- ---- each once

once_step : (g : Group) (gs : List Group) (m slot : ℕ) (b : Group) → IsDistinct nat_eq (g.waiters ++ all_waiters gs) → In g.waiters slot → slice_get gs m ≡ Some b → In b.waiters slot → ⊥
once_step g gs m slot b differ first at second =
    let there = (group_waiters gs m b at).members second.0 slot second.1 in
    apart_in g.waiters (all_waiters gs) first.0 there.0 slot differ first.1 there.1

in_once : (groups : List Group) (n m slot : ℕ) (a b : Group) → IsDistinct nat_eq (all_waiters groups) → slice_get groups n ≡ Some a → slice_get groups m ≡ Some b → In a.waiters slot → In b.waiters slot → n ≡ m
in_once [] n m slot a b differ at_n at_m first second = absurd (none-some a at_n)
in_once (g ∷ gs) zero zero slot a b differ at_n at_m first second = refl
in_once (g ∷ gs) zero (suc m) slot a b differ at_n at_m first second =
    absurd (once_step g gs m slot b differ (subst (λ (h : Group). In h.waiters slot) (sym (same_Some g a at_n)) first) at_m second)
in_once (g ∷ gs) (suc n) zero slot a b differ at_n at_m first second =
    absurd (once_step g gs n slot a differ (subst (λ (h : Group). In h.waiters slot) (sym (same_Some g b at_m)) second) at_n first)
in_once (g ∷ gs) (suc n) (suc m) slot a b differ at_n at_m first second =
    ap suc (in_once gs n m slot a b ((among_right g.waiters (all_waiters gs)).differ differ) at_n at_m first second)

module _ (f : Farm) (d : DependRow) (groups : List Group) (h : DependHolds f d groups) where
  -- no two groups of a depend have one position
  pub position_once : (n m : ℕ) (a b : Group) → slice_get groups n ≡ Some a → slice_get groups m ≡ Some b → a.position ≡ b.position → n ≡ m
  position_once n m a b at_n at_m same = rising_once group_key 0 groups MOST_FRAMES n m a b h.rise at_n at_m same

  -- no frame waits in two groups of a depend
  pub waits_once : (n m : ℕ) (a b : Group) → slice_get groups n ≡ Some a → slice_get groups m ≡ Some b → (slot : ℕ) → waits_in slot a ≡ true → waits_in slot b ≡ true → n ≡ m
  waits_once n m a b at_n at_m slot first second =
      in_once groups n m slot a b h.all.differ at_n at_m (in_from_any slot a.waiters first) (in_from_any slot b.waiters second)
