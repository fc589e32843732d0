-- The graph of no depends.
use Rattle.std.proofs.Common.{◌≡◌, ℕ, zero, suc, List, [], replicate, Option, Some, None, refl, sym, ap, subst, ◌∙◌, arith, Bool}
use Rattle.std.specs.List.{slice_get}
use Rattle.std.proofs.lemmas.List.{length-replicate}
use Rattle.std.proofs.lemmas.Option.{none-some, same_Some}
use Rattle.farm_types.specs.declared.limits.TheConstants.{SLOT_LIMIT}
use Rattle.farm_types.specs.Sums.{total_at}
use Rattle.depend_edges.specs.Listed.{ListedLists}
use Rattle.depend_edges.specs.Ways.{IsLast, KeepsWays, edge_lists, is_any}
use Rattle.depend_edges.specs.declared.links.EdgeAt.{EdgeAt}
use Rattle.depend_graph.specs.Inside.{KeepsDepends, KeepsSums}
use Rattle.depend_graph.specs.Watches.{KeepsCounts}

all_zero : (n s : ℕ) → total_at (replicate n 0) s ≡ 0
all_zero zero s = refl
all_zero (suc n) zero = refl
all_zero (suc n) (suc s) = all_zero n s

all_same : {X : Type 0} (n s : ℕ) (x y : X) → slice_get (replicate n x) s ≡ Some y → x ≡ y
all_same zero s x y at = absurd (none-some y at)
all_same (suc n) zero x y at = same_Some x y at
all_same (suc n) (suc s) x y at = all_same n s x y at

pub made_depends : (ds : List ListedLists) → ds ≡ [] → KeepsDepends ds
made_depends ds none =
    subst KeepsDepends (sym none)
    (record {
      listed = λ p d at. absurd (none-some d at);
      gone_empty = λ p d at gone. absurd (none-some d at);
      numbers_differ = λ p q d e at_d at_e there_d there_e same. absurd (none-some d at_d);
      count_within = omega arith;
      places_within = omega arith;
    })

pub made_sums : (unmet : List ℕ) (ds : List ListedLists) → ds ≡ [] → unmet ≡ replicate SLOT_LIMIT 0 → KeepsSums unmet 0 ds
made_sums unmet ds none zeros =
    subst (λ (xs : List ListedLists). KeepsSums unmet 0 xs) (sym none)
    (subst (λ (us : List ℕ). KeepsSums us 0 []) (sym zeros)
    (record {
      unmet_kept = λ s. all_zero SLOT_LIMIT s;
      unmet_counted = length-replicate {A = ℕ} SLOT_LIMIT 0;
      left_kept = refl;
      left_within = omega arith;
    }))

pub made_counts : (done : List Bool) (ds : List ListedLists) → ds ≡ [] → (p : ℕ) (d : ListedLists) → slice_get ds p ≡ Some d → KeepsCounts done d
made_counts done ds none p d at = absurd (none-some d (ap (λ (xs : List ListedLists). slice_get xs p) (sym none) ∙ at))

pub made_ways : (first : List (Option EdgeAt)) (ds : List ListedLists) → ds ≡ [] → first ≡ replicate SLOT_LIMIT None → KeepsWays first (edge_lists ds)
made_ways first ds none ends =
    subst (λ (xs : List ListedLists). KeepsWays first (edge_lists xs)) (sym none)
    (subst (λ (fs : List (Option EdgeAt)). KeepsWays fs []) (sym ends)
    (record {
      first_kept = λ s o at.
          subst (IsLast [] s is_any) (all_same SLOT_LIMIT s None o at)
          (record { one = λ a is. absurd (none-some a is); wanted_one = λ a is. absurd (none-some a is); last = λ p i e there on wanted. absurd (none-some there.edges there.listed) });
      next_kept = λ p i e there. absurd (none-some there.edges there.listed);
      prev_kept = λ p i e there. absurd (none-some there.edges there.listed);
    }))
