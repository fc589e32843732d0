-- What rows of depends and of met groups keep that fit the rows before them.
use Rattle.std.proofs.Common.{◌≡◌, ◌≤◌, ℕ, ◌+◌, ◌-◌, Bool, true, false, cond, ◌&&◌, ◌||◌, not, eqb, ltb, List, [], ◌∷◌, ◌++◌, length, refl, sym, ap, subst, ◌∙◌, arith}
use Rattle.std.specs.Prelude.{is_some}
use Rattle.std.specs.List.{find, list_all, list_any, sum_by}
use Rattle.std.specs.Cmp.Derive.{both_true}
use Rattle.std.proofs.lemmas.Bool.{leb-true, ltb-true}
use Rattle.std.proofs.lemmas.List.{length-append}
use Rattle.std.proofs.lemmas.List.Sums.{sum_by-append, sum_by-cons}
use Rattle.farm_types.specs.declared.depend.DependRow.{DependRow}
use Rattle.farm_types.specs.declared.depend.Group.{Group}
use Rattle.farm_types.specs.declared.depend.MetRow.{MetRow}
use Rattle.farm_types.specs.declared.limits.TheConstants.{MOST_DEPENDS, MOST_GROUPS}
use Rattle.farm_types.specs.declared.rows.LimitRow.{LimitRow}
use Rattle.farm_types.specs.DependActs.{waits_for_itself}
use Rattle.farm_types.specs.Depends.{groups_left, groups_of}
use Rattle.farm_types.specs.Farm.{Farm, for_some}
use Rattle.farm_types.specs.Forms.{is_between}
use Rattle.farm_types.specs.Kept.{is_formed_depend}
use Rattle.farm_types.proofs.Lists.{and_both}
use Rattle.farm_law.proofs.KeptLists.{list_all-more}
use Rattle.farm_rows.specs.Recovery.{depend_fits, end_is_there, groups_so_far, met_fits, unmet_fits}

-- the depend's other end is there and no frame is its own target, unless it is satisfied
abbrev pub is_draft_depend : Farm → DependRow → Bool
is_draft_depend f d = end_is_there f d.waiter && (d.met_all || (end_is_there f d.target && not (is_some (waits_for_itself (groups_so_far f d)))))

-- each number of the depends' layers has its slot
abbrev pub HasAllGroups : Farm → Type 0
HasAllGroups f = (d : DependRow) → groups_so_far f d ≡ groups_of f d

pub record DraftDepends (f : Farm) : Type 0 where
  pub within : list_all (λ (d : DependRow). is_between 1 (f.next_depend - 1) d.depend) f.depends ≡ true
  pub count : length f.depends ≤ MOST_DEPENDS
  pub formed : list_all is_formed_depend f.depends ≡ true
  pub each : list_all (is_draft_depend f) f.depends ≡ true
  pub groups : HasAllGroups f → groups_left f ≤ MOST_GROUPS

pub no_depends_yet : (f : Farm) → f.depends ≡ [] → DraftDepends f
no_depends_yet f none =
    record {
      within = subst (λ (ds : List DependRow). list_all (λ (d : DependRow). is_between 1 (f.next_depend - 1) d.depend) ds ≡ true) (sym none) refl;
      count = subst (λ (ds : List DependRow). length ds ≤ MOST_DEPENDS) (sym none) (omega arith);
      formed = subst (λ (ds : List DependRow). list_all is_formed_depend ds ≡ true) (sym none) refl;
      each = subst (λ (ds : List DependRow). list_all (is_draft_depend f) ds ≡ true) (sym none) refl;
      groups = λ same. subst (λ (ds : List DependRow). sum_by (λ (d : DependRow). cond d.met_all 0 (length (groups_of f d))) ds ≤ MOST_GROUPS) (sym none) (omega arith);
    }

-- groups are told by layers and slots
pub groups_beside : (f : Farm) (depends : List DependRow) (met : List MetRow) (limits : List LimitRow) (d : DependRow) → groups_of (record f { depends = depends; met = met; limits = limits }) d ≡ groups_of f d
unfolding groups_of
groups_beside f depends met limits d = refl

pub so_far_beside : (f : Farm) (depends : List DependRow) (met : List MetRow) (limits : List LimitRow) (d : DependRow) → groups_so_far (record f { depends = depends; met = met; limits = limits }) d ≡ groups_so_far f d
unfolding groups_so_far
so_far_beside f depends met limits d = refl

draft_beside : (f : Farm) (depends : List DependRow) (met : List MetRow) (limits : List LimitRow) (ds : List DependRow) → list_all (is_draft_depend (record f { depends = depends; met = met; limits = limits })) ds ≡ list_all (is_draft_depend f) ds
draft_beside f depends met limits ds =
    ap (λ (groups : DependRow → List Group). list_all (λ (d : DependRow). end_is_there f d.waiter && (d.met_all || (end_is_there f d.target && not (is_some (waits_for_itself (groups d)))))) ds)
    (λ i d. so_far_beside f depends met limits d i)

left_beside : (f : Farm) (depends : List DependRow) (met : List MetRow) (limits : List LimitRow) (ds : List DependRow)
    → sum_by (λ (d : DependRow). cond d.met_all 0 (length (groups_of (record f { depends = depends; met = met; limits = limits }) d))) ds ≡ sum_by (λ (d : DependRow). cond d.met_all 0 (length (groups_of f d))) ds
left_beside f depends met limits ds =
    ap (λ (groups : DependRow → List Group). sum_by (λ (d : DependRow). cond d.met_all 0 (length (groups d))) ds) (λ i d. groups_beside f depends met limits d i)

all_beside : (f : Farm) (depends : List DependRow) (met : List MetRow) (limits : List LimitRow) → HasAllGroups (record f { depends = depends; met = met; limits = limits }) → HasAllGroups f
all_beside f depends met limits all d = sym (so_far_beside f depends met limits d) ∙ all d ∙ groups_beside f depends met limits d

-- met groups or limits more
pub depends_beside : (f : Farm) (met : List MetRow) (limits : List LimitRow) → DraftDepends f → DraftDepends (record f { met = met; limits = limits })
depends_beside f met limits k =
    record {
      within = k.within;
      count = k.count;
      formed = k.formed;
      each = draft_beside f f.depends met limits f.depends ∙ k.each;
      groups = λ all. subst (λ (n : ℕ). n ≤ MOST_GROUPS) (sym (left_beside f f.depends met limits f.depends)) (k.groups (all_beside f f.depends met limits all));
    }

-- ---- a depend more

-- what a test of an unmet depend gives
unmet_by : (f : Farm) (r : DependRow) (met : Bool) → (met || unmet_fits f r) ≡ true → (met || (end_is_there f r.target && not (is_some (waits_for_itself (groups_so_far f r))))) ≡ true
unmet_by f r true h = refl
unmet_by f r false h =
    let there = and_both (end_is_there f r.target) _ h in
    both_true there.0 (and_both (not (is_some (waits_for_itself (groups_so_far f r)))) _ there.1).0

room_by : (f : Farm) (r : DependRow) (met : Bool) → (met || unmet_fits f r) ≡ true → groups_so_far f r ≡ groups_of f r → groups_left f ≤ MOST_GROUPS → groups_left f + cond met 0 (length (groups_of f r)) ≤ MOST_GROUPS
room_by f r true h same few = omega (arith, few)
room_by f r false h same few =
    let there = and_both (end_is_there f r.target) _ h in
    let alone = and_both (not (is_some (waits_for_itself (groups_so_far f r)))) _ there.1 in
    let some = and_both (ltb 0 (length (groups_so_far f r))) _ alone.1 in
    omega (arith, leb-true _ MOST_GROUPS some.1, ap length same)

pub depend_kept : (f : Farm) (r : DependRow) → depend_fits f r ≡ true → DraftDepends f → DraftDepends (record f { depends = f.depends ++ r ∷ [] })
depend_kept f r fits k =
    let within = and_both (is_between 1 (f.next_depend - 1) r.depend) _ fits in
    let room = and_both (ltb (length f.depends) MOST_DEPENDS) _ within.1 in
    let formed = and_both (is_formed_depend r) _ room.1 in
    let waiter = and_both (end_is_there f r.waiter) _ formed.1 in
    let ds = f.depends ++ r ∷ [] in
    record {
      within = list_all-more (λ (d : DependRow). is_between 1 (f.next_depend - 1) d.depend) f.depends r k.within within.0;
      count = omega (arith, length-append f.depends (r ∷ []), ltb-true _ MOST_DEPENDS room.0);
      formed = list_all-more is_formed_depend f.depends r k.formed formed.0;
      each = draft_beside f ds f.met f.limits ds ∙ list_all-more (is_draft_depend f) f.depends r k.each (both_true waiter.0 (unmet_by f r r.met_all waiter.1));
      groups = λ all.
          let olds = all_beside f ds f.met f.limits all in
          let weight = λ (d : DependRow). cond d.met_all 0 (length (groups_of f d)) in
          let sum : sum_by weight ds ≡ groups_left f + weight r = omega (arith, sum_by-append weight f.depends (r ∷ []), sum_by-cons weight r []) in
          subst (λ (n : ℕ). n ≤ MOST_GROUPS) (sym (left_beside f ds f.met f.limits ds ∙ sum)) (room_by f r r.met_all waiter.1 (olds r) (k.groups olds));
    }

-- ---- met groups

-- marks fit beside other marks and limits
pub met_beside : (f : Farm) (met : List MetRow) (limits : List LimitRow) (ms : List MetRow) → list_all (met_fits (record f { met = met; limits = limits })) ms ≡ list_all (met_fits f) ms
met_beside f met limits ms =
    ap (λ (groups : DependRow → List Group). list_all (λ (m : MetRow). for_some (find (λ (d : DependRow). eqb d.depend m.depend) f.depends) (λ (d : DependRow). not d.met_all && list_any (λ (g : Group). eqb g.position m.position) (groups d))) ms)
    (λ i d. so_far_beside f f.depends met limits d i)

pub met_kept : (f : Farm) (r : MetRow) → met_fits f r ≡ true → list_all (met_fits f) f.met ≡ true → list_all (met_fits (record f { met = f.met ++ r ∷ [] })) (f.met ++ r ∷ []) ≡ true
met_kept f r fits all = met_beside f (f.met ++ r ∷ []) f.limits (f.met ++ r ∷ []) ∙ list_all-more (met_fits f) f.met r all fits
