-- One count of one depend changes: what stands at each place then.
use Rattle.std.proofs.Common.{◌≡◌, ℕ, List, Some, refl, sym, ap, ◌∙◌, ◌⊎◌, inl, inr}
use Rattle.std.specs.List.{slice_get}
use Rattle.std.proofs.lemmas.Option.{same_Some}
use Rattle.farm_types.specs.Farm.{changed_at}
use Rattle.farm_types.proofs.Changed.{changed_at_other, changed_at_same, places}
use Rattle.depend_edges.specs.Listed.{ListedLists}
use Rattle.depend_edges.specs.declared.listed.Count.{Count}
use Rattle.depend_graph.specs.Kept.{still_of}

-- the count is another one, which stands where it stood
pub record IsElsewhere (ds : List ListedLists) (q k p m : ℕ) (e : ListedLists) (n : Count) : Type 0 where
  pub was : ListedLists
  pub was_there : slice_get ds p ≡ Some was
  pub count_there : slice_get was.counts m ≡ Some n
  pub still : still_of was ≡ still_of e
  pub apart : (p ≡ q) × (m ≡ k) → ⊥

-- the count is the changed one
pub record IsHere (q k p m : ℕ) (d e : ListedLists) (c n : Count) (change : Count → Count) : Type 0 where
  pub place : p ≡ q
  pub group : m ≡ k
  pub count_is : n ≡ change c
  pub still : still_of d ≡ still_of e

module _ (ds : List ListedLists) (q k : ℕ) (d : ListedLists) (c : Count) (ch : ListedLists → ListedLists) (change : Count → Count)
    (at : slice_get ds q ≡ Some d) (at_count : slice_get d.counts k ≡ Some c) (counts_are : (ch d).counts ≡ changed_at d.counts k change) (still : still_of (ch d) ≡ still_of d)
  where
    module _ (p m : ℕ) (e : ListedLists) (n : Count) (at_e : slice_get (changed_at ds q ch) p ≡ Some e) (at_n : slice_get e.counts m ≡ Some n) where
      changed_place : p ≡ q → ch d ≡ e
      changed_place same = same_Some (ch d) e (sym (changed_at_same ds q ch d at) ∙ (ap (slice_get (changed_at ds q ch)) (sym same) ∙ at_e))

      in_counts : p ≡ q → slice_get (changed_at d.counts k change) m ≡ Some n
      in_counts same = ap (λ (ns : List Count). slice_get ns m) (sym counts_are) ∙ (ap (λ (x : ListedLists). slice_get x.counts m) (changed_place same) ∙ at_n)

      still_there : p ≡ q → still_of d ≡ still_of e
      still_there same = sym still ∙ ap still_of (changed_place same)

      pub recounted : (IsHere q k p m d e c n change) ⊎ (IsElsewhere ds q k p m e n)
      recounted =
          elim (places p q) as (λ w. (IsHere q k p m d e c n change) ⊎ (IsElsewhere ds q k p m e n)) [
            | inr other ↦
                let stays : slice_get ds p ≡ Some e = sym (changed_at_other ds q p ch other) ∙ at_e in
                inr (record { was = e; was_there = stays; count_there = at_n; still = refl; apart = λ both. other both.0 })
            | inl same ↦
                elim (places m k) as (λ w. (IsHere q k p m d e c n change) ⊎ (IsElsewhere ds q k p m e n)) [
                  | inl one ↦
                      let is : change c ≡ n = same_Some (change c) n (sym (changed_at_same d.counts k change c at_count) ∙ (ap (slice_get (changed_at d.counts k change)) (sym one) ∙ in_counts same)) in
                      inl (record { place = same; group = one; count_is = sym is; still = still_there same })
                  | inr away ↦
                      inr
                      (record {
                        was = d;
                        was_there = ap (slice_get ds) same ∙ at;
                        count_there = sym (changed_at_other d.counts k m change away) ∙ in_counts same;
                        still = still_there same;
                        apart = λ both. away both.1;
                      })
                ]
          ]
