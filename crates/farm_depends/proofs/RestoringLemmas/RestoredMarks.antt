-- Marks in the order of their groups: which groups the next marks are of.
use Rattle.std.proofs.Common.{◌≡◌, ℕ, zero, suc, ◌+◌, Bool, true, false, cond, ◌||◌, List, [], ◌∷◌, ◌++◌, map, drop, Some, refl, sym, ap, ◌∙◌, arith}
use Rattle.std.specs.List.{filter, list_any, slice_get}
use Rattle.std.specs.Cmp.Derive.{both_true}
use Rattle.std.proofs.lemmas.Bool.{eq-eqb, false≢true}
use Rattle.farm_types.specs.declared.depend.DependRow.{DependRow}
use Rattle.farm_types.specs.declared.depend.Group.{Group}
use Rattle.farm_types.specs.declared.depend.MetRow.{MetRow}
use Rattle.farm_types.specs.Farm.{for_some}
use Rattle.farm_types.specs.Settle.{met_row}
use Rattle.farm_depends.specs.Restored.{after_mark, is_mark_of, is_next, marks_along, rest_along}

-- ---- what is left of a list

none_left : {X : Type 0} (n : ℕ) → drop {A = X} n [] ≡ []
none_left zero = refl
none_left (suc n) = refl

-- the first of what is left from a place on stands at the place
pub first_left : {X : Type 0} (xs : List X) (n : ℕ) → slice_get (drop n xs) 0 ≡ slice_get xs n
first_left [] zero = refl
first_left {X} [] (suc n) = refl
first_left (x ∷ xs) zero = refl
first_left (x ∷ xs) (suc n) = first_left xs n

pub left_twice : {X : Type 0} (xs : List X) (n : ℕ) → drop (n + 1) xs ≡ drop 1 (drop n xs)
left_twice xs zero = refl
left_twice {X} [] (suc n) = none_left (suc n + 1)
left_twice (x ∷ xs) (suc n) =
    let next : suc n + 1 ≡ suc (n + 1) = omega arith in
    ap (λ (m : ℕ). drop m (x ∷ xs)) next ∙ left_twice xs n

any_left : (test : MetRow → Bool) (ms : List MetRow) → list_any test ms ≡ false → list_any test (drop 1 ms) ≡ false
any_left test [] none = none
any_left test (m ∷ ms) none = rest (test m) (list_any test ms) none where
  rest : (a b : Bool) → (a || b) ≡ false → b ≡ false
  rest true b is = absurd (false≢true (sym is))
  rest false b is = is

not_first : (test : MetRow → Bool) (ms : List MetRow) → list_any test ms ≡ false → for_some (slice_get ms 0) test ≡ false
not_first test [] none = refl
not_first test (m ∷ ms) none = first (test m) (list_any test ms) none where
  first : (a b : Bool) → (a || b) ≡ false → a ≡ false
  first true b is = is
  first false b is = refl

-- ---- the marks of one depend

-- Where the marks of the groups that are met come first, and none is of another group of the depend, they are found and passed.
pub record IsAlong (depend : ℕ) (met : Group → Bool) (groups : List Group) (rest left : List MetRow) : Type 0 where
  pub marks_are : marks_along depend groups left ≡ map met groups
  pub rest_is : rest_along depend groups left ≡ rest

module _ (d : DependRow) (met : Group → Bool) (rest : List MetRow) where
  pub along : (gs : List Group) (left : List MetRow) → left ≡ map (met_row d) (filter met gs) ++ rest
      → ((n : ℕ) (g : Group) → slice_get gs n ≡ Some g → met g ≡ false → list_any (is_mark_of d.depend g) left ≡ false) → IsAlong d.depend met gs rest left
  along [] left is none = record { marks_are = refl; rest_is = is }
  along (g ∷ gs) left is none = by_mark (met g) refl (along gs) where
    by_mark : (b : Bool) → met g ≡ b
        → ((ms : List MetRow) → ms ≡ map (met_row d) (filter met gs) ++ rest → ((n : ℕ) (x : Group) → slice_get gs n ≡ Some x → met x ≡ false → list_any (is_mark_of d.depend x) ms ≡ false) → IsAlong d.depend met gs rest ms)
        → IsAlong d.depend met (g ∷ gs) rest left
    by_mark true marked behind =
        let here : left ≡ met_row d g ∷ (map (met_row d) (filter met gs) ++ rest) = is ∙ ap (λ b. map (met_row d) (cond b (g ∷ filter met gs) (filter met gs)) ++ rest) marked in
        let next : is_next d.depend g left ≡ true = ap (is_next d.depend g) here ∙ both_true (eq-eqb d.depend d.depend refl) (eq-eqb g.position g.position refl) in
        let more = behind (drop 1 left) (ap (λ (ms : List MetRow). drop 1 ms) here) (λ n x at off. any_left (is_mark_of d.depend x) left (none (suc n) x at off)) in
        record {
          marks_are = (λ i. next i ∷ marks_along d.depend gs (after_mark (next i) left)) ∙ λ i. sym marked i ∷ more.marks_are i;
          rest_is = ap (λ b. rest_along d.depend gs (after_mark b left)) next ∙ more.rest_is;
        }
    by_mark false unmarked behind =
        let here : left ≡ map (met_row d) (filter met gs) ++ rest = is ∙ ap (λ b. map (met_row d) (cond b (g ∷ filter met gs) (filter met gs)) ++ rest) unmarked in
        let next : is_next d.depend g left ≡ false = not_first (is_mark_of d.depend g) left (none 0 g refl unmarked) in
        let more = behind left here (λ n x at off. none (suc n) x at off) in
        record {
          marks_are = (λ i. next i ∷ marks_along d.depend gs (after_mark (next i) left)) ∙ λ i. sym unmarked i ∷ more.marks_are i;
          rest_is = ap (λ b. rest_along d.depend gs (after_mark b left)) next ∙ more.rest_is;
        }
