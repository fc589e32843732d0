-- Changes of rows of which each says what the later farm has.
use Rattle.std.proofs.Common.{◌≡◌, Bool, true, false, cond, ◌||◌, List, [], ◌∷◌, ◌++◌, map, Option, None, Some, refl, sym, ap, ◌∙◌}
use Rattle.std.specs.List.{AllByRecursion, list_any}
use Rattle.std.proofs.lemmas.Bool.{false≢true}
use Rattle.farm_types.specs.Farm.{Farm}
use Rattle.farm_rows.specs.declared.farm_row.FarmRow.{FarmRow}
use Rattle.farm_rows.specs.declared.row_key.RowKey.{RowKey}
use Rattle.farm_rows.specs.declared.row_change.RowChange.{RowChange}
use Rattle.farm_rows.specs.declared.row_change.RowChange.TheVariants as change
use Rattle.farm_rows.specs.Changes.{MakesRows, is_head, is_key, is_named_by, row_after, row_at, row_by, row_key}
use Rattle.farm_rows.proofs.MadeRows.{is_key-true}

-- the change says what the farm has
abbrev pub Says : Farm → RowChange → Type 0
Says g (change.Put r) = row_at g (row_key r) ≡ Some r
Says g (change.Delete gone) = row_at g gone ≡ None

by_change : (g : Farm) (k : RowKey) (old : Option FarmRow) (c : RowChange) → Says g c → row_by c k old ≡ cond (is_named_by k c) (row_at g k) old
by_change g k old (change.Put r) says = by_key (is_key (row_key r) k) refl where
  by_key : (b : Bool) → is_key (row_key r) k ≡ b → cond b (Some r) old ≡ cond b (row_at g k) old
  by_key true is = sym says ∙ ap (row_at g) (is_key-true (row_key r) k is)
  by_key false is = refl
by_change g k old (change.Delete gone) says = by_key (is_key gone k) refl where
  by_key : (b : Bool) → is_key gone k ≡ b → cond b None old ≡ cond b (row_at g k) old
  by_key true is = sym says ∙ ap (row_at g) (is_key-true gone k is)
  by_key false is = refl

either : {X : Type 0} (a b : Bool) (x y : X) → cond b x (cond a x y) ≡ cond (a || b) x y
either true true x y = refl
either true false x y = refl
either false true x y = refl
either false false x y = refl

after_said : (g : Farm) (k : RowKey) (cs : List RowChange) (old : Option FarmRow) → AllByRecursion (Says g) cs → row_after cs k old ≡ cond (list_any (is_named_by k) cs) (row_at g k) old
after_said g k [] old says = refl
after_said g k (c ∷ cs) old says =
    after_said g k cs (row_by c k old) says.1
    ∙ (ap (cond (list_any (is_named_by k) cs) (row_at g k)) (by_change g k old c says.0) ∙ either (is_named_by k c) (list_any (is_named_by k) cs) (row_at g k) old)

-- where what isn't named stays, they make the rows
pub makes_said : (f g : Farm) (cs : List RowChange) → AllByRecursion (Says g) cs → ((k : RowKey) → is_head k ≡ false → list_any (is_named_by k) cs ≡ false → row_at g k ≡ row_at f k) → MakesRows f g cs
makes_said f g cs says others k named = by_name (list_any (is_named_by k) cs) refl where
  by_name : (b : Bool) → list_any (is_named_by k) cs ≡ b → row_at g k ≡ row_after cs k (row_at f k)
  by_name true is = sym (after_said g k cs (row_at f k) says ∙ ap (λ (b : Bool). cond b (row_at g k) (row_at f k)) is)
  by_name false is = others k named is ∙ sym (after_said g k cs (row_at f k) says ∙ ap (λ (b : Bool). cond b (row_at g k) (row_at f k)) is)

-- ---- lists of changes

pub says_append : (g : Farm) (cs ds : List RowChange) → AllByRecursion (Says g) cs → AllByRecursion (Says g) ds → AllByRecursion (Says g) (cs ++ ds)
says_append g [] ds first second = second
says_append g (c ∷ cs) ds first second = (first.0, says_append g cs ds first.1 second)

pub says_map : {X : Type 0} (g : Farm) (make : X → RowChange) (xs : List X) → ((x : X) → Says g (make x)) → AllByRecursion (Says g) (map make xs)
says_map g make [] each = tt
says_map g make (x ∷ xs) each = (each x, says_map g make xs each)

pub any_map : {X Y : Type 0} (test : Y → Bool) (make : X → Y) (xs : List X) → list_any test (map make xs) ≡ list_any (λ (x : X). test (make x)) xs
any_map test make [] = refl
any_map test make (x ∷ xs) = ap (λ (b : Bool). test (make x) || b) (any_map test make xs)

pub either_false : (a b : Bool) → (a || b) ≡ false → (a ≡ false) × (b ≡ false)
either_false true b none = absurd (false≢true (sym none))
either_false false b none = (refl, none)
