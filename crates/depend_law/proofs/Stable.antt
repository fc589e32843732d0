-- While depends keep their groups, and frames stay done or not done, what is open, met and left stays.
use Rattle.std.proofs.Common.{◌≡◌, ℕ, suc, Bool, true, false, cond, ◌||◌, ◌&&◌, not, List, [], ◌∷◌, ◌++◌, map, length, Some, refl, sym, ap, ◌∙◌, arith}
use Rattle.std.specs.List.{filter, list_all, slice_get, sum_by}
use Rattle.std.specs.Option.{is_none}
use Rattle.std.proofs.lemmas.List.Sums.{sum_by-cons}
use Rattle.farm_types.specs.declared.depend.DependRow.{DependRow}
use Rattle.farm_types.specs.declared.depend.Group.{Group}
use Rattle.farm_types.specs.declared.depend.MetRow.{MetRow}
use Rattle.farm_types.specs.Depends.{are_done, groups_left, groups_of, is_done, is_met, is_open, waits_in}
use Rattle.farm_types.specs.DependActs.{waits_for_itself}
use Rattle.farm_types.specs.Farm.{Farm}
use Rattle.farm_types.specs.Kept.{has_no_self_depend}
use Rattle.farm_types.specs.Settle.{is_met_now, met_row, met_rows, met_rows_of, settled_row, with_met}
use Rattle.farm_types.proofs.Lists.{list_all-from_at}
use Rattle.depend_law.proofs.Shapes.{SameFrames, groups_stay}

-- ---- lists of which each item is told alike

pub list_all-same : {X : Type 0} (p q : X → Bool) (xs : List X) → ((n : ℕ) (x : X) → slice_get xs n ≡ Some x → p x ≡ q x) → list_all p xs ≡ list_all q xs
list_all-same p q [] same = refl
list_all-same p q (x ∷ xs) same =
    ap (λ (b : Bool). b && list_all p xs) (same 0 x refl) ∙ ap (λ (b : Bool). q x && b) (list_all-same p q xs (λ n y at. same (suc n) y at))

pub sum_by-same : {X : Type 0} (p q : X → ℕ) (xs : List X) → ((n : ℕ) (x : X) → slice_get xs n ≡ Some x → p x ≡ q x) → sum_by p xs ≡ sum_by q xs
sum_by-same p q [] same = refl
sum_by-same p q (x ∷ xs) same =
    omega (arith, sum_by-cons p x xs, sum_by-cons q x xs, same 0 x refl, sum_by-same p q xs (λ n y at. same (suc n) y at))

pub map-same : {X Y : Type 0} (p q : X → Y) (xs : List X) → ((n : ℕ) (x : X) → slice_get xs n ≡ Some x → p x ≡ q x) → map p xs ≡ map q xs
map-same p q [] same = refl
map-same p q (x ∷ xs) same =
    ap (λ y. y ∷ map p xs) (same 0 x refl) ∙ ap (λ ys. q x ∷ ys) (map-same p q xs (λ n y at. same (suc n) y at))

-- tests that agree on all items keep the same ones
pub filter-same : {X : Type 0} (p q : X → Bool) (xs : List X) → ((n : ℕ) (x : X) → slice_get xs n ≡ Some x → p x ≡ q x) → filter p xs ≡ filter q xs
filter-same p q [] same = refl
filter-same p q (x ∷ xs) same =
    ap (λ (b : Bool). cond b (x ∷ filter p xs) (filter p xs)) (same 0 x refl) ∙ ap (λ ys. cond (q x) (x ∷ ys) ys) (filter-same p q xs (λ n y at. same (suc n) y at))

-- ---- depends that keep their groups

-- The depends and what is marked are the same, and each depend that isn't satisfied has its groups.
pub record SameGroups (f g : Farm) : Type 0 where
  pub depends : g.depends ≡ f.depends
  pub met : g.met ≡ f.met
  pub groups : (n : ℕ) (d : DependRow) → slice_get f.depends n ≡ Some d → d.met_all ≡ false → groups_of g d ≡ groups_of f d

-- where frames stay at their places
pub same_groups : (f g : Farm) → g.depends ≡ f.depends → g.met ≡ f.met → g.layers ≡ f.layers → SameFrames f.slots g.slots → SameGroups f g
same_groups f g depends met layers frames = record { depends = depends; met = met; groups = λ n d at unmet. groups_stay f g d layers frames }

pub same_groups_then : (f g k : Farm) → SameGroups f g → SameGroups g k → SameGroups f k
same_groups_then f g k first second =
    record {
      depends = second.depends ∙ first.depends;
      met = second.met ∙ first.met;
      groups = λ n d at unmet. second.groups n d (ap (λ (ds : List DependRow). slice_get ds n) first.depends ∙ at) unmet ∙ first.groups n d at unmet;
    }

-- the frame waits in no unmet group of the depend
abbrev pub is_open_in : Farm → ℕ → DependRow → Bool
is_open_in f slot d = list_all (λ g. is_met f d g || not (waits_in slot g)) (groups_of f d)

-- a satisfied depend keeps none
pub open_in_satisfied : (f : Farm) (slot : ℕ) (d : DependRow) → d.met_all ≡ true → is_open_in f slot d ≡ true
open_in_satisfied f slot d met = list_all-from_at (λ g. is_met f d g || not (waits_in slot g)) (groups_of f d) (λ n g at. rw met refl)

or_same : (a x y : Bool) → a ≡ true → (a || x) ≡ (a || y)
or_same a x y is = rw is refl

module _ (f g : Farm) (same : SameGroups f g) where
  pub met_same : (d : DependRow) (b : Group) → is_met g d b ≡ is_met f d b
  met_same d b = ap (λ (ms : List MetRow). is_met (record f { met = ms }) d b) same.met

  open_in_same : (slot n : ℕ) (d : DependRow) → slice_get f.depends n ≡ Some d → (b : Bool) → d.met_all ≡ b → is_open_in g slot d ≡ is_open_in f slot d
  open_in_same slot n d at true is = open_in_satisfied g slot d is ∙ sym (open_in_satisfied f slot d is)
  open_in_same slot n d at false is =
      list_all-same (λ b. is_met g d b || not (waits_in slot b)) (λ b. is_met f d b || not (waits_in slot b)) (groups_of g d)
      (λ k b here. ap (λ (m : Bool). m || not (waits_in slot b)) (met_same d b))
      ∙ ap (list_all (λ b. is_met f d b || not (waits_in slot b))) (same.groups n d at is)

  -- the same frames are open
  pub open_same : (slot : ℕ) → is_open g slot ≡ is_open f slot
  open_same slot =
      ap (list_all (is_open_in g slot)) same.depends
      ∙ list_all-same (is_open_in g slot) (is_open_in f slot) f.depends (λ n d at. open_in_same slot n d at d.met_all refl)

  left_in_same : (n : ℕ) (d : DependRow) → slice_get f.depends n ≡ Some d → (b : Bool) → d.met_all ≡ b → cond b 0 (length (groups_of g d)) ≡ cond b 0 (length (groups_of f d))
  left_in_same n d at true is = refl
  left_in_same n d at false is = ap length (same.groups n d at is)

  -- as many groups are left
  pub left_same : groups_left g ≡ groups_left f
  left_same =
      ap (sum_by (λ (d : DependRow). cond d.met_all 0 (length (groups_of g d)))) same.depends
      ∙ sum_by-same (λ (d : DependRow). cond d.met_all 0 (length (groups_of g d))) (λ (d : DependRow). cond d.met_all 0 (length (groups_of f d))) f.depends
      (λ n d at. left_in_same n d at d.met_all refl)

  self_in_same : (n : ℕ) (d : DependRow) → slice_get f.depends n ≡ Some d → (b : Bool) → d.met_all ≡ b → has_no_self_depend g d ≡ has_no_self_depend f d
  self_in_same n d at true is = or_same d.met_all (is_none (waits_for_itself (groups_of g d))) (is_none (waits_for_itself (groups_of f d))) is
  self_in_same n d at false is = ap (λ (bs : List Group). d.met_all || is_none (waits_for_itself bs)) (same.groups n d at is)

  -- in the same depends frames wait for themselves
  pub self_same : list_all (has_no_self_depend g) g.depends ≡ list_all (has_no_self_depend f) f.depends
  self_same =
      ap (list_all (has_no_self_depend g)) same.depends
      ∙ list_all-same (has_no_self_depend g) (has_no_self_depend f) f.depends (λ n d at. self_in_same n d at d.met_all refl)

  -- Where of each depend that isn't satisfied the same groups are met now, exactly what is met stays marked.
  module _ (now : (n : ℕ) (d : DependRow) → slice_get f.depends n ≡ Some d → d.met_all ≡ false → (k : ℕ) (b : Group) → slice_get (groups_of f d) k ≡ Some b → is_met_now g d b ≡ is_met_now f d b) where
    all_met_same : (n : ℕ) (d : DependRow) → slice_get f.depends n ≡ Some d → (b : Bool) → d.met_all ≡ b
        → (d.met_all || list_all (is_met_now g d) (groups_of g d)) ≡ (d.met_all || list_all (is_met_now f d) (groups_of f d))
    all_met_same n d at true is = or_same d.met_all (list_all (is_met_now g d) (groups_of g d)) (list_all (is_met_now f d) (groups_of f d)) is
    all_met_same n d at false is =
        ap (λ (bs : List Group). d.met_all || list_all (is_met_now g d) bs) (same.groups n d at is)
        ∙ ap (λ (all : Bool). d.met_all || all) (list_all-same (is_met_now g d) (is_met_now f d) (groups_of f d) (now n d at is))

    row_same : (n : ℕ) (d : DependRow) → slice_get f.depends n ≡ Some d → settled_row g d ≡ settled_row f d
    row_same n d at = ap (λ (b : Bool). record d { met_all = b }) (all_met_same n d at d.met_all refl)

    marks_of_same : (n : ℕ) (d : DependRow) → slice_get f.depends n ≡ Some d → (b : Bool) → d.met_all ≡ b → met_rows_of g d ≡ met_rows_of f d
    marks_of_same n d at true is = marks_none g d is ∙ sym (marks_none f d is)
      where
        marks_none : (k : Farm) (d : DependRow) → d.met_all ≡ true → met_rows_of k d ≡ []
        marks_none k d is = rw is refl
    marks_of_same n d at false is =
        ap (λ (b : Bool). cond b [] (map (met_row d) (filter (is_met_now g d) (groups_of g d)))) (all_met_same n d at false is)
        ∙ (ap (λ (bs : List Group). cond (settled_row f d).met_all [] (map (met_row d) (filter (is_met_now g d) bs))) (same.groups n d at is)
        ∙ ap (λ (bs : List Group). cond (settled_row f d).met_all [] (map (met_row d) bs)) (filter-same (is_met_now g d) (is_met_now f d) (groups_of f d) (now n d at is)))

    marks_same : (ds : List DependRow) → ((n : ℕ) (d : DependRow) → slice_get ds n ≡ Some d → met_rows_of g d ≡ met_rows_of f d) → met_rows g ds ≡ met_rows f ds
    marks_same [] each = refl
    marks_same (d ∷ ds) each =
        ap (λ (ms : List MetRow). ms ++ met_rows g ds) (each 0 d refl) ∙ ap (λ (ms : List MetRow). met_rows_of f d ++ ms) (marks_same ds (λ n b at. each (suc n) b at))

    -- where exactly what is met was marked, it is
    with_met_is : with_met f ≡ f → with_met g ≡ record g { depends = f.depends; met = f.met }
    with_met_is settled =
        let rows : map (settled_row g) f.depends ≡ f.depends = map-same (settled_row g) (settled_row f) f.depends row_same ∙ ap (λ (k : Farm). k.depends) settled in
        let marks : met_rows g f.depends ≡ f.met = marks_same f.depends (λ n d at. marks_of_same n d at d.met_all refl) ∙ ap (λ (k : Farm). k.met) settled in
        let both : record g { depends = map (settled_row g) f.depends; met = met_rows g f.depends } ≡ record g { depends = f.depends; met = f.met } = λ i. record g { depends = rows i; met = marks i } in
        ap (λ (ds : List DependRow). record g { depends = map (settled_row g) ds; met = met_rows g ds }) same.depends ∙ both

    pub marks_stay : with_met f ≡ f → with_met g ≡ g
    marks_stay settled =
        let back : record g { depends = f.depends; met = f.met } ≡ g = λ i. record g { depends = sym same.depends i; met = sym same.met i } in
        with_met_is settled ∙ back

  -- and so it does where the same frames are done
  module _ (done : (slot : ℕ) → is_done g.slots slot ≡ is_done f.slots slot) where
    done_same : is_done g.slots ≡ is_done f.slots
    done_same i slot = done slot i

    now_same : (d : DependRow) (b : Group) → is_met_now g d b ≡ is_met_now f d b
    now_same d b i = met_same d b i || are_done (done_same i) b

    pub met_stays : with_met f ≡ f → with_met g ≡ g
    met_stays = marks_stay (λ n d at unmet k b there. now_same d b)
