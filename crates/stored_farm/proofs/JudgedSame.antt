-- Judging by what is kept is judging by the rows so far.
use Rattle.std.proofs.Common.{◌≡◌, ◌∙◌, ◌<◌, ◌≤◌, ℕ, suc, zero, ◌+◌, ◌-◌, Bool, true, false, cond, not, ◌&&◌, ◌||◌, eqb, leb, ltb, List, [], ◌∷◌, map, length, Option, Some, None, refl, sym, ap, subst, arith}
use Rattle.std.specs.Prelude.{is_some, option_map}
use Rattle.std.specs.List.{find, list_any, position_or_len, slice_get, sum_by}
use Rattle.std.proofs.lemmas.Bool.{leb-true}
use Rattle.std.proofs.lemmas.List.Sums.{sum_by-cons}
use Rattle.std.proofs.lemmas.List.Folds.{find_at}
use Rattle.std.proofs.lemmas.Option.{none-some, same_Some}
use Rattle.farm_types.specs.declared.depend.DependRow.{DependRow}
use Rattle.farm_types.specs.declared.depend.Group.{Group}
use Rattle.farm_types.specs.declared.depend.MetRow.{MetRow}
use Rattle.farm_types.specs.declared.limits.TheConstants.{MOST_DEPENDS, MOST_FRAMES, MOST_GROUPS}
use Rattle.farm_types.specs.DependActs.{waits_for_itself}
use Rattle.farm_types.specs.Depends.{groups_left, groups_of}
use Rattle.farm_types.specs.Farm.{Farm, for_some}
use Rattle.farm_types.specs.Forms.{is_between}
use Rattle.farm_types.specs.Kept.{is_formed_depend}
use Rattle.farm_types.specs.Rising.{IsRising}
use Rattle.farm_types.proofs.Lists.{and_both, for_some_true}
use Rattle.farm_rows.specs.declared.ids.TheConstants.{GROUP_IDS}
use Rattle.farm_rows.specs.Recovery.{end_is_there, groups_fit, groups_so_far}
use Rattle.stored_rows.specs.SoFar.{HasFewNumbers}
use Rattle.stored_farm.specs.Judged.{groups_pass, has_its_forms, has_position, is_mark_among, passes, passes_unmet, takes_depend, takes_mark}
use Rattle.stored_farm.specs.Kept.{groups_kept, with_depends}
use Rattle.stored_farm.specs.Marks.{EachRises, position_key}
use Rattle.stored_farm.proofs.Long.{length_of}
use Rattle.stored_farm.proofs.Positions.{position_below, so_far_rise}

-- ---- groups are told by layers and slots

so_far_beside : (f : Farm) (ds : List DependRow) (ms : List MetRow) (d : DependRow) → groups_so_far (with_depends f ds ms) d ≡ groups_so_far f d
unfolding groups_so_far
so_far_beside f ds ms d = refl

pub kept_beside : (f : Farm) (ds : List DependRow) (ms : List MetRow) (d : DependRow) → groups_kept (with_depends f ds ms) d ≡ groups_kept f d
kept_beside f ds ms d = ap (λ (gs : List Group). cond d.met_all [] gs) (so_far_beside f ds ms d)

pub of_beside : (f : Farm) (ds : List DependRow) (ms : List MetRow) (d : DependRow) → groups_of (with_depends f ds ms) d ≡ groups_of f d
unfolding groups_of
of_beside f ds ms d = refl

-- ---- how many groups there are

weight_by : (f : Farm) (ds : List DependRow) (ms : List MetRow) (d : DependRow) (b : Bool) → length (cond b [] (groups_so_far f d)) ≡ cond b 0 (length (groups_of (with_depends f ds ms) d))
weight_by f ds ms d true = refl
weight_by f ds ms d false = length_of f d ∙ ap length (sym (of_beside f ds ms d))

sums_of : (f : Farm) (ds : List DependRow) (ms : List MetRow) (xs : List DependRow)
    → sum_by (λ (gs : List Group). length gs) (map (groups_kept f) xs) ≡ sum_by (λ (d : DependRow). cond d.met_all 0 (length (groups_of (with_depends f ds ms) d))) xs
sums_of f ds ms [] = refl
sums_of f ds ms (d ∷ xs) =
    let weight : DependRow → ℕ = λ (e : DependRow). cond e.met_all 0 (length (groups_of (with_depends f ds ms) e)) in
    let long : List Group → ℕ = λ (gs : List Group). length gs in
    let here : length (groups_kept f d) ≡ weight d = weight_by f ds ms d d.met_all in
    sum_by-cons long (groups_kept f d) (map (groups_kept f) xs)
    ∙ ((λ i. here i + sums_of f ds ms xs i) ∙ sym (sum_by-cons weight d xs))

pub left_of : (f : Farm) (ds : List DependRow) (ms : List MetRow) → sum_by (λ (gs : List Group). length gs) (map (groups_kept f) ds) ≡ groups_left (with_depends f ds ms)
left_of f ds ms = sums_of f ds ms ds

-- ---- a depend

chain : (a b c d e : Bool) → ((a && (b && (c && d))) && e) ≡ (a && (b && (c && (d && e))))
chain true true true true e = refl
chain true true true false e = refl
chain true true false d e = refl
chain true false c d e = refl
chain false b c d e = refl

module _ (f : Farm) (k : HasFewNumbers f) (ds : List DependRow) (ms : List MetRow) where
  module _ (left : ℕ) (is : left ≡ groups_left (with_depends f ds ms)) (r : DependRow) where
    pass_is : groups_pass left (groups_so_far f r) ≡ groups_fit (with_depends f ds ms) r (groups_so_far (with_depends f ds ms) r)
    pass_is =
        let same : groups_so_far f r ≡ groups_so_far (with_depends f ds ms) r = sym (so_far_beside f ds ms r) in
        λ i. not (is_some (waits_for_itself (same i))) && (ltb 0 (length (same i)) && leb (is i + length (same i)) MOST_GROUPS)

    unmet_by : (b : Bool) → (b || (end_is_there f r.target && groups_pass left (cond b [] (groups_so_far f r))))
        ≡ (b || (end_is_there f r.target && groups_fit (with_depends f ds ms) r (groups_so_far (with_depends f ds ms) r)))
    unmet_by true = refl
    unmet_by false = ap (λ (b : Bool). end_is_there f r.target && b) pass_is

    pub depend_judged : passes f (length ds) left r (groups_kept f r) ≡ takes_depend (with_depends f ds ms) r
    depend_judged =
        let numbered = is_between 1 (f.next_depend - 1) r.depend in
        let counted = ltb (length ds) MOST_DEPENDS in
        let formed = is_formed_depend r in
        let there = end_is_there f r.waiter in
        ap (λ (b : Bool). f.recorded && b)
        (chain numbered counted formed there (passes_unmet f left r (groups_kept f r)) ∙ ap (λ (b : Bool). numbered && (counted && (formed && (there && b)))) (unmet_by r.met_all))

    -- there is room for its groups
    room_by : (b : Bool) → left ≤ MOST_GROUPS → (b || (end_is_there f r.target && groups_pass left (cond b [] (groups_so_far f r)))) ≡ true → left + length (cond b [] (groups_so_far f r)) ≤ MOST_GROUPS
    room_by true few h = omega (arith, few)
    room_by false few h =
        let there = and_both (end_is_there f r.target) _ h in
        let alone = and_both (not (is_some (waits_for_itself (groups_so_far f r)))) _ there.1 in
        let some = and_both (ltb 0 (length (groups_so_far f r))) _ alone.1 in
        leb-true (left + length (groups_so_far f r)) MOST_GROUPS some.1

    pub room_for : left ≤ MOST_GROUPS → takes_depend (with_depends f ds ms) r ≡ true → left + length (groups_kept f r) ≤ MOST_GROUPS
    room_for few fits =
        let recorded = and_both f.recorded (has_its_forms f (length ds) r && passes_unmet f left r (groups_kept f r)) (depend_judged ∙ fits) in
        let unmet = and_both (has_its_forms f (length ds) r) (passes_unmet f left r (groups_kept f r)) recorded.1 in
        room_by r.met_all few unmet.1

  -- ---- a mark

  get_mapped : (xs : List DependRow) (n : ℕ) → slice_get (map (groups_kept f) xs) n ≡ option_map (groups_kept f) (slice_get xs n)
  get_mapped [] n = refl
  get_mapped (x ∷ xs) zero = refl
  get_mapped (x ∷ xs) (suc n) = get_mapped xs n

  some_mapped : (test : List Group → Bool) (o : Option DependRow) → for_some (option_map (groups_kept f) o) test ≡ for_some o (λ (d : DependRow). test (groups_kept f d))
  some_mapped test None = refl
  some_mapped test (Some d) = refl

  has_by : (p : ℕ) (d : DependRow) (b : Bool) → has_position p (cond b [] (groups_so_far f d)) ≡ (not b && list_any (λ (g : Group). eqb g.position p) (groups_so_far (with_depends f ds ms) d))
  has_by p d true = refl
  has_by p d false = ap (λ (gs : List Group). list_any (λ (g : Group). eqb g.position p) gs) (sym (so_far_beside f ds ms d))

  pub mark_judged : (m : MetRow) → (f.recorded && is_mark_among ds (map (groups_kept f) ds) m) ≡ takes_mark (with_depends f ds ms) m
  mark_judged m =
      let wanted : DependRow → Bool = λ (d : DependRow). eqb d.depend m.depend in
      ap (λ (b : Bool). f.recorded && b)
      (ap (λ (o : Option (List Group)). for_some o (has_position m.position)) (get_mapped ds (position_or_len wanted ds))
      ∙ (some_mapped (has_position m.position) (slice_get ds (position_or_len wanted ds))
      ∙ (ap (λ (o : Option DependRow). for_some o (λ (d : DependRow). has_position m.position (groups_kept f d))) (sym (find_at wanted ds))
      ∙ ap (λ (test : DependRow → Bool). for_some (find wanted ds) test) (λ i d. has_by m.position d d.met_all i))))

  rise_by : (d : DependRow) (b : Bool) → IsRising position_key 0 (cond b [] (groups_so_far f d)) MOST_FRAMES
  rise_by d true = omega arith
  rise_by d false = so_far_rise f k d

  each_by : (o : Option DependRow) (gs : List Group) → option_map (groups_kept f) o ≡ Some gs → IsRising position_key 0 gs MOST_FRAMES
  each_by None gs e = absurd (none-some gs e)
  each_by (Some d) gs e = subst (λ (hs : List Group). IsRising position_key 0 hs MOST_FRAMES) (same_Some (groups_kept f d) gs e) (rise_by d d.met_all)

  pub each_rises : EachRises (map (groups_kept f) ds)
  each_rises = λ n gs at. record { high = MOST_FRAMES; rise = each_by (slice_get ds n) gs (sym (get_mapped ds n) ∙ at) }

  -- the mark's position is one of a frame
  pub mark_below : (m : MetRow) → takes_mark (with_depends f ds ms) m ≡ true → m.position < GROUP_IDS
  mark_below m fits =
      let wanted : DependRow → Bool = λ (d : DependRow). eqb d.depend m.depend in
      let both = and_both f.recorded (is_mark_among ds (map (groups_kept f) ds) m) (mark_judged m ∙ fits) in
      let there = for_some_true (slice_get (map (groups_kept f) ds) (position_or_len wanted ds)) (has_position m.position) both.1 in
      let rise = each_by (slice_get ds (position_or_len wanted ds)) there.0 (sym (get_mapped ds (position_or_len wanted ds)) ∙ there.1) in
      omega (arith, position_below m.position 0 there.0 MOST_FRAMES rise there.2)
