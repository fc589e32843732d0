-- Which groups are met, by the count of those that aren't.
use Rattle.std.proofs.Common.{◌≡◌, ℕ, ◌+◌, Bool, true, false, not, eqb, ◌&&◌, List, [], ◌∷◌, length, refl, sym, ap, ◌∙◌, arith}
use Rattle.std.specs.List.{count_by, list_all, list_any}
use Rattle.std.proofs.lemmas.Bool.{ne_eqb}
use Rattle.farm_types.specs.declared.depend.Group.{Group}
use Rattle.depend_edges.specs.Listed.{IsListed, ListedLists, is_unmet}
use Rattle.depend_edges.specs.declared.listed.Count.{Count}
use Rattle.depend_edges.proofs.Counts.{count_by-cons, one_if}
use Rattle.depend_graph.specs.Graph.{is_met}
use Rattle.depend_graph.specs.MetAt.{has_mark, is_met_at}
use Rattle.depend_graph.specs.Watches.{watched_with}

all_met : (gs : List Group) (cs : List Count) → length cs ≡ length gs → list_all is_met (watched_with gs cs) ≡ eqb (count_by is_unmet cs) 0
all_met [] [] long = refl
all_met [] (c ∷ cs) long = absurd (omega (arith, long))
all_met (g ∷ gs) [] long = absurd (omega (arith, long))
all_met (g ∷ gs) (c ∷ cs) long = by c.met (all_met gs cs (omega (arith, long))) ∙ sym (ap (λ (n : ℕ). eqb n 0) (count_by-cons is_unmet c cs))
  where
    by : (b : Bool) → list_all is_met (watched_with gs cs) ≡ eqb (count_by is_unmet cs) 0 → (b && list_all is_met (watched_with gs cs)) ≡ eqb (one_if (not b) + count_by is_unmet cs) 0
    by true more = more ∙ ap (λ (n : ℕ). eqb n 0) (let same : count_by is_unmet cs ≡ 0 + count_by is_unmet cs = omega arith in same)
    by false more = sym (ne_eqb (1 + count_by is_unmet cs) 0 (λ e. absurd (omega (arith, e))))

-- a mark is there only where a group isn't met
pub marked_is : (d : ListedLists) (p : ℕ) → IsListed d → has_mark p (watched_with d.groups d.counts) ≡ (not (eqb d.unmet 0) && list_any (is_met_at p) (watched_with d.groups d.counts))
marked_is d p k =
    ap (λ (b : Bool). not b && list_any (is_met_at p) (watched_with d.groups d.counts)) (all_met d.groups d.counts k.counted ∙ ap (λ (n : ℕ). eqb n 0) (sym k.unmet_kept))
