-- Walks along lists: the first that passes, marks, and who waits unmet.
use Rattle.std.proofs.Common.{◌≡◌, ℕ, zero, suc, ◌+◌, ◌<◌, ◌≤◌, ◌||◌, Bool, true, false, cond, not, List, [], ◌∷◌, ◌++◌, length, filter, get_or, take, drop, replicate, Option, Some, None, refl, sym, ap, ◌∙◌, arith, append_assoc, append-nil}
use Rattle.std.specs.List.{find, list_all, list_any, slice_get}
use Rattle.std.proofs.Common.{eqb, ℤ}
use Rattle.std.proofs.lemmas.Bool.{ltb-true}
use Rattle.std.proofs.lemmas.List.{drop_all, drop_more, take_more}
use Rattle.std.proofs.lemmas.Option.{none-some, same_Some}
use Rattle.std.proofs.lemmas.List.Elements.{filter-append}
use Rattle.farm_types.specs.declared.depend.Group.{Group}
use Rattle.farm_types.specs.declared.depend.LayerShape.{LayerShape}
use Rattle.farm_types.specs.Groups.{all_slots}
use Rattle.depend_book.specs.declared.new_depend.NewDepend.{NewDepend}
use Rattle.farm_depends.specs.Placed.{number_among}
use Rattle.farm_types.specs.Depends.{are_done}
use Rattle.farm_types.proofs.Lists.{and_both}
use Rattle.farm_types.specs.declared.limits.TheConstants.{SLOT_LIMIT}
use Rattle.depend_graph.specs.Graph.{is_below, is_flagged}
use Rattle.farm_depends.specs.Coming.{all_unmet_by, is_unmet_by, unmet_by, waiters_of}

-- ---- the first that passes

module _ {X : Type 0} (test : X → Bool) (xs : List X) (i : ℕ) (x : X) (within : i < length xs) (is : x ≡ get_or xs i x) (so_far : find test (drop i xs) ≡ find test xs) where
  here : find test (drop i xs) ≡ find test (x ∷ drop (i + 1) xs)
  here = ap (find test) (drop_more xs i x within ∙ ap (λ (y : X). y ∷ drop (i + 1) xs) (sym is))

  pub found_at : test x ≡ true → Some x ≡ find test xs
  found_at passes = sym (ap (λ (b : Bool). cond b (Some x) (find test (drop (i + 1) xs))) passes) ∙ (sym here ∙ so_far)

  pub passed_at : test x ≡ false → find test (drop (i + 1) xs) ≡ find test xs
  passed_at fails = sym (ap (λ (b : Bool). cond b (Some x) (find test (drop (i + 1) xs))) fails) ∙ (sym here ∙ so_far)

-- tests that agree below the limit of slots
pub find_below : (p q : ℕ → Bool) (xs : List ℕ) → list_all is_below xs ≡ true → ((w : ℕ) → w < SLOT_LIMIT → p w ≡ q w) → find p xs ≡ find q xs
find_below p q [] below same = refl
find_below p q (x ∷ xs) below same =
    let both = and_both (is_below x) (list_all is_below xs) below in
    ap (λ (b : Bool). cond b (Some x) (find p xs)) (same x (ltb-true x SLOT_LIMIT both.0)) ∙ ap (λ (o : Option ℕ). cond (q x) (Some x) o) (find_below p q xs both.1 same)

-- ---- marks

pub none_flagged : (n w : ℕ) → is_flagged (replicate n false) w ≡ false
none_flagged zero w = refl
none_flagged (suc n) zero = refl
none_flagged (suc n) (suc w) = none_flagged n w

-- ---- who waits unmet

pub waiters_of-append : (gs hs : List Group) → waiters_of (gs ++ hs) ≡ waiters_of gs ++ waiters_of hs
waiters_of-append [] hs = refl
waiters_of-append (g ∷ gs) hs = ap (λ (ns : List ℕ). g.waiters ++ ns) (waiters_of-append gs hs) ∙ sym (append_assoc g.waiters (waiters_of gs) (waiters_of hs))

module _ (done : List Bool) (groups : List Group) (i : ℕ) (g : Group) (within : i < length groups) (is : g ≡ get_or groups i g) where
  one_more : unmet_by done (take (i + 1) groups) ≡ unmet_by done (take i groups) ++ waiters_of (cond (is_unmet_by done g) (g ∷ []) [])
  one_more =
      ap (unmet_by done) (take_more groups i g within ∙ ap (λ (h : Group). take i groups ++ h ∷ []) (sym is))
      ∙ (ap waiters_of (filter-append (is_unmet_by done) (take i groups) (g ∷ [])) ∙ waiters_of-append (filter (is_unmet_by done) (take i groups)) (filter (is_unmet_by done) (g ∷ [])))

  pub unmet_more : are_done (is_flagged done) g ≡ false → unmet_by done (take (i + 1) groups) ≡ unmet_by done (take i groups) ++ g.waiters
  unmet_more unmet = one_more ∙ ap (λ (ns : List ℕ). unmet_by done (take i groups) ++ ns) (ap (λ (b : Bool). waiters_of (cond (not b) (g ∷ []) [])) unmet ∙ append-nil g.waiters)

  pub unmet_same : are_done (is_flagged done) g ≡ true → unmet_by done (take (i + 1) groups) ≡ unmet_by done (take i groups)
  unmet_same met = one_more ∙ (ap (λ (b : Bool). unmet_by done (take i groups) ++ waiters_of (cond (not b) (g ∷ []) [])) met ∙ append-nil (unmet_by done (take i groups)))

-- ---- marked slots

or_assoc : (a b c : Bool) → (a || (b || c)) ≡ ((a || b) || c)
or_assoc true b c = refl
or_assoc false b c = refl

pub list_any-append : {X : Type 0} (test : X → Bool) (xs ys : List X) → list_any test (xs ++ ys) ≡ (list_any test xs || list_any test ys)
list_any-append test [] ys = refl
list_any-append test (x ∷ xs) ys = ap (λ (b : Bool). test x || b) (list_any-append test xs ys) ∙ or_assoc (test x) (list_any test xs) (list_any test ys)

-- marks that were set, and more
pub marked_more : (old before new first second : Bool) → new ≡ (before || second) → before ≡ (old || first) → new ≡ (old || (first || second))
marked_more old before new first second is was = is ∙ (ap (λ (b : Bool). b || second) was ∙ sym (or_assoc old first second))

all_unmet-append : (done : List Bool) (ms ns : List NewDepend) → all_unmet_by done (ms ++ ns) ≡ all_unmet_by done ms ++ all_unmet_by done ns
all_unmet-append done [] ns = refl
all_unmet-append done (m ∷ ms) ns =
    ap (λ (ks : List ℕ). unmet_by done m.groups ++ ks) (all_unmet-append done ms ns) ∙ sym (append_assoc (unmet_by done m.groups) (all_unmet_by done ms) (all_unmet_by done ns))

all_slots-append : (ks ls : List LayerShape) → all_slots (ks ++ ls) ≡ all_slots ks ++ all_slots ls
all_slots-append [] ls = refl
all_slots-append (k ∷ ks) ls = ap (λ (ns : List ℕ). k.slots ++ ns) (all_slots-append ks ls) ∙ sym (append_assoc k.slots (all_slots ks) (all_slots ls))

pub all_unmet_more : (done : List Bool) (all : List NewDepend) (i : ℕ) (n : NewDepend) → i < length all → n ≡ get_or all i n → all_unmet_by done (take (i + 1) all) ≡ all_unmet_by done (take i all) ++ unmet_by done n.groups
all_unmet_more done all i n within is =
    ap (all_unmet_by done) (take_more all i n within ∙ ap (λ (m : NewDepend). take i all ++ m ∷ []) (sym is)) ∙ (all_unmet-append done (take i all) (n ∷ []) ∙ ap (λ (ns : List ℕ). all_unmet_by done (take i all) ++ ns) (append-nil (unmet_by done n.groups)))

pub slots_more : (layers : List LayerShape) (i : ℕ) (l : LayerShape) → i < length layers → l ≡ get_or layers i l → all_slots (take (i + 1) layers) ≡ all_slots (take i layers) ++ l.slots
slots_more layers i l within is =
    ap all_slots (take_more layers i l within ∙ ap (λ (k : LayerShape). take i layers ++ k ∷ []) (sym is)) ∙ (all_slots-append (take i layers) (l ∷ []) ∙ ap (λ (ns : List ℕ). all_slots (take i layers) ++ ns) (append-nil l.slots))

filter_step : (b c : Bool) (x : ℕ) (xs ys : List ℕ) → b ≡ c → xs ≡ ys → cond b (x ∷ xs) xs ≡ cond c (x ∷ ys) ys
filter_step b c x xs ys same later = ap (λ (d : Bool). cond d (x ∷ xs) xs) same ∙ ap (λ (zs : List ℕ). cond c (x ∷ zs) zs) later

pub filter_below : (p q : ℕ → Bool) (xs : List ℕ) → list_all is_below xs ≡ true → ((w : ℕ) → w < SLOT_LIMIT → p w ≡ q w) → filter p xs ≡ filter q xs
filter_below p q [] below same = refl
filter_below p q (x ∷ xs) below same =
    let both = and_both (is_below x) (list_all is_below xs) below in
    filter_step (p x) (q x) x (filter p xs) (filter q xs) (same x (ltb-true x SLOT_LIMIT both.0)) (filter_below p q xs both.1 same)

-- ---- numbers by slots

number_past : (slot : ℕ) (ns : List ℤ) → number_among slot ns [] ≡ None
number_past slot [] = refl
number_past slot (n ∷ ns) = refl

none_either : (b : Bool) → None ≡ cond {A = Option ℤ} b None None
none_either true = refl
none_either false = refl

pub number_at_place : (slot : ℕ) (numbers : List ℤ) (slots : List ℕ) (i s : ℕ) → slice_get slots i ≡ Some s
    → number_among slot (drop i numbers) (drop i slots) ≡ cond (eqb s slot) (slice_get numbers i) (number_among slot (drop (i + 1) numbers) (drop (i + 1) slots))
number_at_place slot numbers [] i s at = absurd (none-some s at)
number_at_place slot [] (t ∷ ts) zero s at = none_either (eqb s slot)
number_at_place slot (n ∷ ns) (t ∷ ts) zero s at = ap (λ (k : ℕ). cond (eqb k slot) (Some n) (number_among slot ns ts)) (same_Some t s at)
number_at_place slot [] (t ∷ ts) (suc i) s at = let e : suc i + 1 ≡ suc (i + 1) = omega arith in rw e (none_either (eqb s slot))
number_at_place slot (n ∷ ns) (t ∷ ts) (suc i) s at = let e : suc i + 1 ≡ suc (i + 1) = omega arith in rw e (number_at_place slot ns ts i s at)

pub number_none : (slot : ℕ) (numbers : List ℤ) (slots : List ℕ) (i : ℕ) → length slots ≤ i → number_among slot (drop i numbers) (drop i slots) ≡ None
number_none slot numbers slots i past = ap (number_among slot (drop i numbers)) (drop_all i slots past) ∙ number_past slot (drop i numbers)
