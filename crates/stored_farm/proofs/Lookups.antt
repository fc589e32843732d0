-- What is found, and where.
use Rattle.std.proofs.Common.{◌≡◌, ◌<◌, ◌≤◌, ℕ, suc, zero, ◌+◌, ◌*◌, Bool, true, false, ◌||◌, ◌&&◌, eqb, ltb, List, [], ◌∷◌, map, length, refl, sym, ap, ◌∙◌, arith}
use Rattle.std.specs.Prelude.{is_some}
use Rattle.std.specs.List.{list_all, list_any, position_or_len, slice_get}
use Rattle.std.proofs.lemmas.Bool.{eqb-true, eq-eqb, false≢true, le-ltb, lt-ltb, ltb-true}
use Rattle.std.proofs.lemmas.List.Folds.{find_at}
use Rattle.farm_types.specs.declared.depend.MetRow.{MetRow}
use Rattle.farm_types.proofs.Lists.{and_both}
use Rattle.farm_rows.specs.declared.ids.TheConstants.{GROUP_IDS}
use Rattle.stored_rows.proofs.Frames.{some_found}
use Rattle.stored_farm.specs.Ends.{is_mark_of}
use Rattle.stored_farm.specs.Kept.{has_own_id, met_id}

-- two tests that agree by implication both ways
pub same_by : (x y : Bool) → (x ≡ true → y ≡ true) → (y ≡ true → x ≡ true) → x ≡ y
same_by true true there back = refl
same_by true false there back = sym (there refl)
same_by false true there back = back refl
same_by false false there back = refl

-- ---- what is found

pub list_any-map : {X Y : Type 0} (test : Y → Bool) (change : X → Y) (xs : List X) → list_any test (map change xs) ≡ list_any (λ (x : X). test (change x)) xs
list_any-map test change [] = refl
list_any-map test change (x ∷ xs) = ap (λ (b : Bool). test (change x) || b) (list_any-map test change xs)

some_within : {X : Type 0} (xs : List X) (n : ℕ) → is_some (slice_get xs n) ≡ ltb n (length xs)
some_within [] n = sym (le-ltb n 0 (omega arith))
some_within (x ∷ xs) zero = sym (lt-ltb 0 (suc (length xs)) (omega arith))
some_within (x ∷ xs) (suc n) =
    some_within xs n
    ∙ same_by (ltb n (length xs)) (ltb (suc n) (suc (length xs)))
    (λ h. lt-ltb (suc n) (suc (length xs)) (omega (arith, ltb-true n (length xs) h)))
    (λ h. lt-ltb n (length xs) (omega (arith, ltb-true (suc n) (suc (length xs)) h)))

-- one passes where the place of the first is among those of the list
pub any_by_place : {X : Type 0} (test : X → Bool) (xs : List X) → ltb (position_or_len test xs) (length xs) ≡ list_any test xs
any_by_place test xs = sym (some_within xs (position_or_len test xs)) ∙ (ap is_some (sym (find_at test xs)) ∙ some_found test xs)

-- ---- marks by their ids

mark_there : (depend position : ℕ) (m : MetRow) → position < GROUP_IDS → has_own_id m ≡ true → eqb (met_id m) (GROUP_IDS * depend + position) ≡ is_mark_of depend position m
mark_there depend position m within own =
    let below = ltb-true m.position GROUP_IDS own in
    same_by (eqb (met_id m) (GROUP_IDS * depend + position)) (is_mark_of depend position m)
    (λ same.
    let e = eqb-true (met_id m) (GROUP_IDS * depend + position) same in
    let d : m.depend ≡ depend = omega (arith, e, below, within) in
    let p : m.position ≡ position = omega (arith, e, below, within) in
    both (eq-eqb m.depend depend d) (eq-eqb m.position position p))
    (λ same.
    let parts = and_both (eqb m.depend depend) (eqb m.position position) same in
    let d = eqb-true m.depend depend parts.0 in
    let p = eqb-true m.position position parts.1 in
    eq-eqb (met_id m) (GROUP_IDS * depend + position) (omega (arith, d, p)))
  where
    both : {a b : Bool} → a ≡ true → b ≡ true → (a && b) ≡ true
    both {a = a} {b = b} x y = ap (λ (z : Bool). z && b) x ∙ y

-- the mark of an id is that of its depend and its position
pub marks_by_id : (depend position : ℕ) (met : List MetRow) → position < GROUP_IDS → list_all has_own_id met ≡ true
    → list_any (λ (m : MetRow). eqb (met_id m) (GROUP_IDS * depend + position)) met ≡ list_any (is_mark_of depend position) met
marks_by_id depend position [] within own = refl
marks_by_id depend position (m ∷ ms) within own =
    let parts = and_both (has_own_id m) (list_all has_own_id ms) own in
    (λ i. mark_there depend position m within parts.0 i || marks_by_id depend position ms within parts.1 i)

-- no mark has a position past the ids
pub no_mark_past : (depend position : ℕ) (met : List MetRow) → GROUP_IDS ≤ position → list_all has_own_id met ≡ true → list_any (is_mark_of depend position) met ≡ false
no_mark_past depend position [] past own = refl
no_mark_past depend position (m ∷ ms) past own =
    let parts = and_both (has_own_id m) (list_all has_own_id ms) own in
    let below = ltb-true m.position GROUP_IDS parts.0 in
    let apart : is_mark_of depend position m ≡ false =
    same_by (is_mark_of depend position m) false
    (λ same. absurd (omega (arith, past, below, eqb-true m.position position (and_both (eqb m.depend depend) (eqb m.position position) same).1)))
    (λ wrong. absurd (false≢true wrong)) in
    (λ i. apart i || no_mark_past depend position ms past parts.1 i)

-- ---- tests

pub or_nothing : (b rest all : Bool) → rest ≡ false → (b || rest) ≡ all → b ≡ all
or_nothing true rest all none h = h
or_nothing false rest all none h = sym none ∙ h
