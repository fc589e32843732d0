-- Lists under tests that agree, and refusals taken apart.
use Rattle.std.proofs.Common.{◌≡◌, ℕ, ◌+◌, ◌<◌, ◌≤◌, ◌&&◌, ◌||◌, Bool, true, false, cond, not, List, [], ◌∷◌, length, filter, Option, Some, None, refl, sym, ap, ◌∙◌, arith, length-append}
use Rattle.std.specs.Prelude.{leb, ltb}
use Rattle.std.specs.List.{list_all, list_any}
use Rattle.std.proofs.lemmas.Bool.{leb-false, ltb-false}
use Rattle.std.proofs.lemmas.List.Elements.{filter_agree}
use Rattle.std.proofs.lemmas.Option.{none-some}
use Rattle.farm_types.specs.declared.depend.Group.{Group}
use Rattle.farm_types.specs.declared.limits.TheConstants.{LAST_DEPEND, MOST_DEPENDS, MOST_GROUPS}
use Rattle.farm_types.specs.declared.refusal.Refusal.{Refusal}
use Rattle.farm_types.specs.DependActs.{or_else}
use Rattle.farm_types.specs.Depends.{are_done}
use Rattle.farm_depends.specs.declared.new_depends.room.Counts.{Counts}
use Rattle.farm_depends.specs.Coming.{counts_full, waiters_of}

module _ (p q : ℕ → Bool) (same : (n : ℕ) → p n ≡ q n) where
  all_agree : (ns : List ℕ) → list_all p ns ≡ list_all q ns
  all_agree [] = refl
  all_agree (n ∷ ns) = ap (λ (b : Bool). b && list_all p ns) (same n) ∙ ap (λ (b : Bool). q n && b) (all_agree ns)

  any_agree : (ns : List ℕ) → list_any p ns ≡ list_any q ns
  any_agree [] = refl
  any_agree (n ∷ ns) = ap (λ (b : Bool). b || list_any p ns) (same n) ∙ ap (λ (b : Bool). q n || b) (any_agree ns)

  pub done_agree : (g : Group) → are_done p g ≡ are_done q g
  done_agree g = ap (λ (b : Bool). cond g.any b (list_all p g.targets)) (any_agree g.targets) ∙ ap (λ (b : Bool). cond g.any (list_any q g.targets) b) (all_agree g.targets)

  -- groups that aren't done by two tests that agree
  pub unmet_agree : (gs : List Group) → filter (λ g. not (are_done p g)) gs ≡ filter (λ g. not (are_done q g)) gs
  unmet_agree gs = filter_agree (λ g. not (are_done p g)) (λ g. not (are_done q g)) (λ g. ap not (done_agree g)) gs

-- ---- some of the groups

some_step : (b : Bool) (g : Group) (gs hs : List Group) → length (waiters_of hs) ≤ length (waiters_of gs) → length (waiters_of (cond b (g ∷ hs) hs)) ≤ length (waiters_of (g ∷ gs))
some_step true g gs hs few = omega (arith, length-append g.waiters (waiters_of gs), length-append g.waiters (waiters_of hs))
some_step false g gs hs few = omega (arith, length-append g.waiters (waiters_of gs))

pub waiters_some : (test : Group → Bool) (gs : List Group) → length (waiters_of (filter test gs)) ≤ length (waiters_of gs)
waiters_some test [] = omega arith
waiters_some test (g ∷ gs) = some_step (test g) g gs (filter test gs) (waiters_some test gs)

-- ---- refusals

pub both_none : (a b : Option Refusal) → or_else a b ≡ None → (a ≡ None) × (b ≡ None)
both_none None b none = (refl, none)
both_none (Some why) b none = absurd (none-some why (sym none))

-- a chain of tests, each with its refusal, that refuses nothing
pub passes : (b : Bool) (why : Refusal) (rest : Option Refusal) → cond b (Some why) rest ≡ None → (b ≡ false) × (rest ≡ None)
passes true why rest none = absurd (none-some why (sym none))
passes false why rest none = (refl, none)

-- what is left where there is room for a depend
pub record HasRoom (c : Counts) (groups : ℕ) : Type 0 where
  pub depend : c.depends < MOST_DEPENDS
  pub groups_fit : c.groups + groups ≤ MOST_GROUPS
  pub number : c.next ≤ LAST_DEPEND

pub room_by : (c : Counts) (groups : ℕ) → counts_full c groups ≡ None → HasRoom c groups
room_by c groups none =
    let first = passes (leb MOST_DEPENDS c.depends) _ _ none in
    let second = passes (ltb MOST_GROUPS (c.groups + groups)) _ _ first.1 in
    let third = passes (ltb LAST_DEPEND c.next) _ _ second.1 in
    record {
      depend = omega (arith, leb-false MOST_DEPENDS c.depends first.0);
      groups_fit = omega (arith, ltb-false MOST_GROUPS (c.groups + groups) second.0);
      number = omega (arith, ltb-false LAST_DEPEND c.next third.0);
    }
