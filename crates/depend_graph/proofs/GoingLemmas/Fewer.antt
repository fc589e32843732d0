-- A frame waits in no more unmet groups than are left.
use Rattle.std.proofs.Common.{◌≡◌, ◌≤◌, ℕ, ◌+◌, true, false, not, cond, List, [], ◌∷◌, length, refl, ap, ◌⊎◌, inl, inr, arith}
use Rattle.std.specs.Prelude.{◌&&◌}
use Rattle.std.specs.List.{list_all, count_by}
use Rattle.std.proofs.lemmas.Bool.{cases_Bool}
use Rattle.std.proofs.lemmas.List.Sums.{sum_by-cons, count_by-le-length}
use Rattle.farm_types.specs.Depends.{waits_in}
use Rattle.farm_types.proofs.Lists.{and_both}
use Rattle.depend_edges.proofs.Counts.{count_by-cons, one_if}
use Rattle.depend_graph.specs.Graph.{Watch, Watched, groups_left, holds, is_met, is_satisfied, unmet_in, unmet_of}
use Rattle.depend_graph.proofs.ProgressLemmas.Watches.{weight_of}

met_holds_none : (s : ℕ) (ws : List Watched) → list_all is_met ws ≡ true → count_by (holds s) ws ≡ 0
met_holds_none s [] all = refl
met_holds_none s (w ∷ ws) all =
    let both = and_both w.met (list_all is_met ws) all in
    let one : one_if (holds s w) ≡ 0 = ap (λ m. one_if (not m && waits_in s w.group)) both.0 in
    omega (arith, count_by-cons (holds s) w ws, met_holds_none s ws both.1)

few_of : (s : ℕ) (d : Watch) → unmet_in s d ≤ weight_of d
few_of s d = by_test (cases_Bool (is_satisfied d)) where
  by_test : (is_satisfied d ≡ true) ⊎ (is_satisfied d ≡ false) → unmet_in s d ≤ weight_of d
  by_test (inl is) = omega (arith, met_holds_none s d.groups is)
  by_test (inr not_yet) =
      let long : weight_of d ≡ length d.groups = ap (λ b. cond b 0 (length d.groups)) not_yet in
      omega (arith, count_by-le-length (holds s) d.groups)

pub unmet_low : (s : ℕ) (ws : List Watch) → unmet_of ws s ≤ groups_left ws
unmet_low s [] = omega arith
unmet_low s (w ∷ ws) =
    let left : groups_left (w ∷ ws) ≡ weight_of w + groups_left ws = sum_by-cons weight_of w ws in
    let unmet : unmet_of (w ∷ ws) s ≡ unmet_in s w + unmet_of ws s = sum_by-cons (unmet_in s) w ws in
    omega (arith, few_of s w, unmet_low s ws)
