-- The recorder's seat's view has the desk, the journal and the trail.
use Rattle.std.proofs.Common.{◌≡◌, ℕ, zero, suc, List, [], ◌∷◌, set, sym, refl, ap, ◌∙◌, subst}
use Rattle.std.specs.Prelude.{Option, Some, None}
use mathlib.Core.Option.{some, some-ne-none}
use lib.ListN.{get_elem?}
use Rattle.farm_types.specs.declared.entry.Entry.{Entry}
use Rattle.booking_rule.specs.declared.view.View.{View}
use Rattle.booking_rule.specs.declared.desk.Desk.{Desk}
use Rattle.booking_rule.specs.declared.noted.Noted.{Noted}
use Rattle.booking_rule.specs.declared.opening.Opening.{Opening}
use Rattle.booking_rule.specs.Words.{Words}
use Rattle.booking_rule.specs.Recorded.{Recorded}
use Rattle.booking_rule.specs.Rule.{Rule}
use Rattle.booking_rule.specs.Kept.{KeptAs, Kept}
use Rattle.booking_rule.proofs.Seating.{none_some}
use Rattle.booking_rule.proofs.Moves.{HoldsAlike, rule_view}

pub of_first : (n : ℕ) (W : Words) (views : List View) (id : ℕ) (v : View) (d : Desk) → Kept n W views → get_elem? views id ≡ some v → v.desk ≡ Some d → KeptAs n W views id v.opening d v.journal v.trail
of_first n W views id v d K at is =
    let m = K.own.seats.each id v at in
    let f = m.first d is in
    let P : ℕ × (Opening × (Desk × (List Entry × List Noted))) → Type 0 = λ x. KeptAs n W views x.0 x.1.0 x.1.1.0 x.1.1.1.0 x.1.1.1.1 in
    subst P (λ i. (sym f.0 i, (sym (m.same (λ (x : (v.desk ≡ None) × (v.number ≡ None)). none_some d (sym x.0 ∙ is))) i, (sym f.1 i, (sym f.2 i, sym f.3 i))))) K.own

module _ {A : Type 0} where
  set_twice : (l : List A) (i : ℕ) (a b : A) → set (set l i a) i b ≡ set l i b
  set_twice [] i a b = refl
  set_twice (x ∷ xs) zero a b = refl
  set_twice (x ∷ xs) (suc i) a b = ap (λ (l : List A). x ∷ l) (set_twice xs i a b)

  pub set_here : (l : List A) (i : ℕ) (v w : A) → get_elem? l i ≡ some v → get_elem? (set l i w) i ≡ some w
  set_here [] i v w e = absurd (some-ne-none v (sym e))
  set_here (x ∷ xs) zero v w e = refl
  set_here (x ∷ xs) (suc i) v w e = set_here xs i v w e

-- A step lemma of one view serves any view that holds as much.
pub rule_like : (R : Recorded) (p : Option ℕ) (W : Words) (views : List View) (id : ℕ) (v u w : View) → get_elem? views id ≡ some v → Rule R p W (set views id u)
    → HoldsAlike u w → Rule R p W (set views id w)
rule_like R p W views id v u w at K same =
    subst (λ (l : List View). Rule R p W l) (set_twice views id u w) (rule_view R p W (set views id u) id u w K (set_here views id v u at) same)
