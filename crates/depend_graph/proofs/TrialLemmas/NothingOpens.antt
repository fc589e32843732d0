-- Where nothing opens, and nothing is met.
use Rattle.std.proofs.Common.{◌≡◌, ℕ, ◌+◌, Bool, true, false, not, cond, eqb, ltb, List, [], ◌∷◌, length, refl, sym, ap, ◌∙◌, arith}
use Rattle.std.specs.Prelude.{◌&&◌}
use Rattle.std.specs.List.{list_all}
use Rattle.std.proofs.Math.Bool.{and-false}
use Rattle.std.proofs.lemmas.List.Sums.{sum_by-cons}
use Rattle.farm_types.specs.declared.limits.TheConstants.{SLOT_LIMIT}
use Rattle.farm_types.proofs.Lists.{and_both}
use Rattle.depend_graph.specs.Graph.{HasMet, Watch, Watched, groups_left, has_opened, is_met, is_satisfied, met_between, no_marks, numbers_from, opened_between, unmet_of, was_met, was_satisfied}
use Rattle.depend_graph.proofs.GoingLemmas.Fewer.{unmet_low}
use Rattle.depend_graph.proofs.ProgressLemmas.FlowKept.{never_satisfied}
use Rattle.depend_graph.proofs.TrialLemmas.Telling.{never_met}
use Rattle.depend_graph.proofs.ProgressLemmas.Unchanged.{filter_none}
use Rattle.depend_graph.proofs.ProgressLemmas.Watches.{weight_of}

none_opens : (olds news : List Watch) → ((s : ℕ) → has_opened olds news s ≡ false) → [] ≡ opened_between olds news
unfolding opened_between
none_opens olds news none = sym (filter_none (has_opened olds news) none (numbers_from SLOT_LIMIT 0))

-- where no group is left, whatever comes
pub none_unmet : (olds news : List Watch) → groups_left olds ≡ 0 → [] ≡ opened_between olds news
none_unmet olds news none = none_opens olds news shut where
  shut : (s : ℕ) → has_opened olds news s ≡ false
  shut s =
      let waits : unmet_of olds s ≡ 0 = omega (arith, unmet_low s olds, none) in
      ap (λ n. ltb 0 n && eqb (unmet_of news s) 0) waits

-- ---- what is met

-- a group that is met doesn't become so
none_between : (position : ℕ) (olds news : List Watched) → list_all is_met olds ≡ true → met_between position olds news ≡ false
none_between position [] news all = refl
none_between position (o ∷ os) [] all = refl
none_between position (o ∷ os) (n ∷ ns) all =
    let both = and_both o.met (list_all is_met os) all in
    ap (λ b. cond (eqb o.group.position position && (not b && n.met)) true (met_between position os ns)) both.0
    ∙ (ap (λ b. cond b true (met_between position os ns)) (and-false (eqb o.group.position position)) ∙ none_between position os ns both.1)

-- where no group is left, the first depend is satisfied, and no group is left of the others
record HasNone (w : Watch) (ws : List Watch) : Type 0 where
  pub first : is_satisfied w ≡ true
  pub rest : groups_left ws ≡ 0

has_none : (w : Watch) (ws : List Watch) → groups_left (w ∷ ws) ≡ 0 → HasNone w ws
has_none w ws none =
    let left : groups_left (w ∷ ws) ≡ weight_of w + groups_left ws = sum_by-cons weight_of w ws in
    record { first = by_test (is_satisfied w) refl (omega (arith, left, none)); rest = omega (arith, left, none) }
  where
    all_of : (gs : List Watched) → length gs ≡ 0 → list_all is_met gs ≡ true
    all_of [] empty = refl
    all_of (g ∷ gs) empty = absurd (omega (arith, empty))

    by_test : (b : Bool) → is_satisfied w ≡ b → weight_of w ≡ 0 → is_satisfied w ≡ true
    by_test true is empty = is
    by_test false is empty = all_of w.groups (sym (ap (λ b. cond b 0 (length w.groups)) is) ∙ empty)

-- then nothing becomes met, whatever comes
not_met : (olds news : List Watch) (n position : ℕ) → groups_left olds ≡ 0 → was_met olds news n position ≡ false
not_met [] news n position none = refl
not_met (o ∷ os) [] n position none = refl
not_met (o ∷ os) (w ∷ ws) n position none =
    let has = has_none o os none in
    ap (λ b. cond (eqb o.depend n && b) true (was_met os ws n position)) (none_between position o.groups w.groups has.first)
    ∙ (ap (λ b. cond b true (was_met os ws n position)) (and-false (eqb o.depend n)) ∙ not_met os ws n position has.rest)

not_satisfied : (olds news : List Watch) (n : ℕ) → groups_left olds ≡ 0 → was_satisfied olds news n ≡ false
not_satisfied [] news n none = refl
not_satisfied (o ∷ os) [] n none = refl
not_satisfied (o ∷ os) (w ∷ ws) n none =
    let has = has_none o os none in
    ap (λ b. cond (eqb o.depend n && (not b && is_satisfied w)) true (was_satisfied os ws n)) has.first
    ∙ (ap (λ b. cond b true (was_satisfied os ws n)) (and-false (eqb o.depend n)) ∙ not_satisfied os ws n has.rest)

pub none_met : (olds news : List Watch) → groups_left olds ≡ 0 → HasMet olds news no_marks
none_met olds news none =
    record { met = λ n position. sym (not_met olds news n position none); satisfied = λ n. sym (not_satisfied olds news n none) }

-- where no frame is done
pub same_met : (ws : List Watch) → HasMet ws ws no_marks
same_met ws = record { met = λ n position. sym (never_met ws n position); satisfied = λ n. sym (never_satisfied ws n) }
