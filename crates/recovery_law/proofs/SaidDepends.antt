-- The rows of depends say them.
use Rattle.std.proofs.Common.{◌≡◌, ◌≤◌, ◌<◌, ℕ, ◌+◌, ◌-◌, Bool, true, false, not, cond, ◌||◌, List, [], ◌∷◌, ◌++◌, map, length, sum_by, is_some, Option, Some, None, Result, refl, ap, sym, subst, ◌∙◌, arith}
use Rattle.std.specs.List.{list_all, slice_get}
use Rattle.std.specs.Option.{is_none}
use Rattle.std.proofs.lemmas.Bool.{false≢true, le-leb, lt-ltb, true≢false}
use Rattle.std.proofs.lemmas.List.Sums.{sum_by-append, sum_by-cons}
use Rattle.std.specs.Cmp.Derive.{both_true}
use Rattle.farm_types.specs.declared.depend.DependRow.{DependRow}
use Rattle.farm_types.specs.declared.depend.Group.{Group}
use Rattle.farm_types.specs.declared.limits.TheConstants.{MOST_DEPENDS, MOST_GROUPS}
use Rattle.farm_types.specs.DependActs.{waits_for_itself}
use Rattle.farm_types.specs.Depends.{groups_left, groups_of}
use Rattle.farm_types.specs.Farm.{Farm}
use Rattle.farm_types.specs.Kept.{IsKeptFarm, has_no_self_depend, is_end_there, is_formed_depend, is_kept_depend}
use Rattle.farm_types.specs.Rising.{IsRising, depend_key}
use Rattle.farm_types.specs.Settle.{is_met_now}
use Rattle.farm_types.proofs.Lists.{and_both}
use Rattle.farm_rows.specs.declared.farm_row.FarmRow.{FarmRow}
use Rattle.farm_rows.specs.declared.farm_row.FarmRow.TheVariants as row
use Rattle.farm_rows.specs.Recovery.{Said, StoredKey, depend_fits, farm_with, groups_fit, unmet_fits}
use Rattle.recovery_law.proofs.Firsts.{by_keys, first_fewer, next_passes, numbered_map, rising_next, rising_under}
use Rattle.recovery_law.proofs.FramesThere.{end_there, groups_alike}
use Rattle.recovery_law.proofs.Parts.{upto_depends}
use Rattle.recovery_law.proofs.SaidEnd.{unmet_left}
use Rattle.recovery_law.proofs.SaidSlots.{at_place}
use Rattle.recovery_law.proofs.Stage.{IsPast, Kind, Stage, all_staged}

abbrev pub depend_rows : Farm → Kind DependRow
depend_rows f = record { kind = 9; make = λ n x. row.Depend x; id = λ n x. depend_key x; farm = upto_depends f }

some_group : (test : Group → Bool) (gs : List Group) → list_all test gs ≡ false → 0 < length gs
some_group test [] h = absurd (true≢false h)
some_group test (g ∷ gs) h = omega arith

none_waits : (o : Option ℕ) → is_none o ≡ true → not (is_some o) ≡ true
none_waits None h = refl
none_waits (Some slot) h = absurd (false≢true h)

-- a flag that isn't set leaves what else is said
pub other_by : (b c : Bool) → b ≡ false → (b || c) ≡ true → c ≡ true
other_by true c unset h = absurd (true≢false unset)
other_by false c unset h = h

-- the groups of the first depends with those of the next are within those of all
left_within : (weight : DependRow → ℕ) (done rest : List DependRow) (x : DependRow) (most : ℕ) → sum_by weight (done ++ x ∷ rest) ≤ most → sum_by weight done + weight x ≤ most
left_within weight done rest x most all =
    let parts = sum_by-append weight done (x ∷ rest) in
    let own = sum_by-cons weight x rest in
    omega (arith, all, parts, own)

module _ (format : ℕ) (f : Farm) (k : IsKeptFarm f) where
  same_groups : (done : List DependRow) → groups_of (upto_depends f done) ≡ groups_of f
  unfolding groups_of
  same_groups done = refl

  abbrev left : DependRow → ℕ
  left d = cond d.met_all 0 (length (groups_of f d))

  left_fit : (done rest : List DependRow) (x : DependRow) → done ++ x ∷ rest ≡ f.depends → x.met_all ≡ false → groups_left (upto_depends f done) + length (groups_of f x) ≤ MOST_GROUPS
  left_fit done rest x is unmet =
      let all = subst (λ (ds : List DependRow). sum_by left ds ≤ MOST_GROUPS) (sym is) k.depends.groups_within in
      let own : left x ≡ length (groups_of f x) = ap (λ (b : Bool). cond b 0 (length (groups_of f x))) unmet in
      let within = left_within left done rest x MOST_GROUPS all in
      let same : groups_left (upto_depends f done) ≡ sum_by left done = ap (λ (groups : DependRow → List Group). sum_by (λ (d : DependRow). cond d.met_all 0 (length (groups d))) done) (same_groups done) in
      omega (arith, own, within, same)

  unmet_fit : (done rest : List DependRow) (x : DependRow) → done ++ x ∷ rest ≡ f.depends → (x.met_all || is_end_there f x.target) ≡ true → (x.met_all || is_none (waits_for_itself (groups_of f x))) ≡ true
      → x.met_all ≡ false → unmet_fits (upto_depends f done) x ≡ true
  unmet_fit done rest x is target self unmet =
      let at : slice_get f.depends (length done) ≡ Some x = subst (λ (ds : List DependRow). slice_get ds (length done) ≡ Some x) is (at_place done rest x) in
      let groups = groups_alike f k.rows done x in
      let some = some_group (is_met_now f x) (groups_of f x) (unmet_left f k (length done) x at unmet) in
      both_true (end_there f k.rows done x.target (other_by x.met_all (is_end_there f x.target) unmet target))
      (ap (groups_fit (upto_depends f done) x) groups
      ∙ both_true (none_waits (waits_for_itself (groups_of f x)) (other_by x.met_all _ unmet self))
      (both_true (lt-ltb 0 (length (groups_of f x)) some) (le-leb _ MOST_GROUPS (left_fit done rest x is unmet))))

  either : (done rest : List DependRow) (x : DependRow) → done ++ x ∷ rest ≡ f.depends → (x.met_all || is_end_there f x.target) ≡ true → (x.met_all || is_none (waits_for_itself (groups_of f x))) ≡ true
      → (b : Bool) → x.met_all ≡ b → (b || unmet_fits (upto_depends f done) x) ≡ true
  either done rest x is target self true met = refl
  either done rest x is target self false unmet = unmet_fit done rest x is target self unmet

  depend_fit : (done : List DependRow) (x : DependRow) (rest : List DependRow) → done ++ x ∷ rest ≡ f.depends → depend_fits (upto_depends f done) x ≡ true
  depend_fit done x rest is =
      let d = k.depends in
      let rise = subst (λ (xs : List DependRow). IsRising depend_key 1 xs f.next_depend) (sym is) d.rise in
      let under = rising_under depend_key 1 done rest x f.next_depend rise in
      let fewer = first_fewer done rest x in
      let same = ap length is in
      let kept = and_both (is_end_there f x.waiter) (x.met_all || is_end_there f x.target) (next_passes (is_kept_depend f) done rest x (subst (λ (xs : List DependRow). list_all (is_kept_depend f) xs ≡ true) (sym is) d.ends_there)) in
      let self = next_passes (has_no_self_depend f) done rest x (subst (λ (xs : List DependRow). list_all (has_no_self_depend f) xs ≡ true) (sym is) d.no_self_depends) in
      both_true (both_true (le-leb 1 x.depend (rising_next depend_key 1 done rest x f.next_depend rise)) (le-leb x.depend (f.next_depend - 1) (omega (arith, under))))
      (both_true (lt-ltb (length done) MOST_DEPENDS (omega (arith, fewer, same, d.count)))
      (both_true (next_passes is_formed_depend done rest x (subst (λ (xs : List DependRow). list_all is_formed_depend xs ≡ true) (sym is) d.formed))
      (both_true (end_there f k.rows done x.waiter kept.0)
      (either done rest x is kept.1 self x.met_all refl))))

  depends_stage : Stage format (depend_rows f) f.depends
  depends_stage = record { keys = λ n x. refl; formats = λ n x. refl; adds = λ done x. refl; fits = depend_fit }

  pub depends_said : (more : List FarmRow) (said : Result Said StoredKey) → ((last : Option StoredKey) → IsPast last 9 → farm_with format last (upto_depends f f.depends) more ≡ said)
      → (last : Option StoredKey) → IsPast last 8 → farm_with format last (upto_depends f []) (map row.Depend f.depends ++ more) ≡ said
  depends_said more said next last past =
      ap (λ (rows : List FarmRow). farm_with format last (upto_depends f []) (rows ++ more)) (sym (numbered_map row.Depend 0 f.depends))
      ∙ all_staged format (depend_rows f) f.depends depends_stage more said next last 1 8 (omega arith) (by_keys depend_key 1 0 f.depends f.next_depend k.depends.rise) past
