-- How often each slot was freed so far, and which of them wait in no unmet group then.
use Rattle.std.proofs.Common.{◌≡◌, ◌≢◌, ◌≤◌, ℕ, ◌+◌, ◌-◌, Bool, true, false, cond, eqb, ltb, List, [], ◌∷◌, ◌++◌, length, Option, refl, sym, ap, subst, ◌∙◌, ◌⊎◌, inl, inr, arith}
use Rattle.std.specs.Prelude.{◌&&◌}
use Rattle.std.specs.List.{count_by}
use Rattle.std.specs.List.Sorted.{IsNonDecreasing, IsPermutation}
use Rattle.std.proofs.lemmas.Bool.{eq-eqb, ne_eqb, le-ltb}
use Rattle.std.proofs.lemmas.Option.{slice_get_past}
use Rattle.farm_types.specs.declared.limits.TheConstants.{SLOT_LIMIT}
use Rattle.farm_types.specs.Sums.{total_at, total_in}
use Rattle.farm_types.proofs.Changed.{places}
use Rattle.depend_edges.proofs.Counts.{count_by-push, one_if}
use Rattle.depend_graph.specs.Graph.{Watch, has_opened, opened_between, unmet_of}
use Rattle.depend_graph.specs.Trial.{IsFreed, count_or, is_at}
use Rattle.depend_graph.proofs.TrialLemmas.Ordered.{ordered}

-- a frame that waits in so many groups, and is freed of so many
abbrev pub opens_by : ℕ → ℕ → Bool
opens_by count times = ltb 0 count && eqb (count - times) 0

pub record IsCounted (unmet freed : List ℕ) (over : ℕ → Option ℕ) (slots : List ℕ) : Type 0 where
  pub read : (s : ℕ) → count_or (total_at unmet s) (over s) ≡ total_at unmet s - count_by (is_at s) freed
  pub listed : (s : ℕ) → count_by (is_at s) slots ≡ one_if (opens_by (total_at unmet s) (count_by (is_at s) freed))

-- freed once more
once_more : (count times : ℕ) → one_if (opens_by count (times + 1)) ≡ one_if (opens_by count times) + one_if (eqb (count - times) 1)
once_more count times = grind arith

pub step_counted : (unmet freed : List ℕ) (over laid : ℕ → Option ℕ) (slots news : List ℕ) (slot : ℕ) → IsCounted unmet freed over slots → IsFreed slot (total_at unmet slot) over laid slots news
    → IsCounted unmet (freed ++ slot ∷ []) laid news
step_counted unmet freed over laid slots news slot counted one = record { read = λ s. read_by s (places s slot); listed = λ s. listed_by s (places s slot) } where
  more : (s : ℕ) → count_by (is_at s) (freed ++ slot ∷ []) ≡ count_by (is_at s) freed + one_if (eqb slot s)
  more s = count_by-push (is_at s) freed slot

  read_by : (s : ℕ) → (s ≡ slot) ⊎ (s ≢ slot) → count_or (total_at unmet s) (laid s) ≡ total_at unmet s - count_by (is_at s) (freed ++ slot ∷ [])
  read_by s (inl same) =
      let here : count_or (total_at unmet s) (laid s) ≡ count_or (total_at unmet s) (over s) - 1 = subst (λ (t : ℕ). count_or (total_at unmet t) (laid t) ≡ count_or (total_at unmet t) (over t) - 1) (sym same) (ap (count_or (total_at unmet slot)) one.counts.here) in
      omega (arith, here, counted.read s, more s, ap one_if (eq-eqb slot s (sym same)))
  read_by s (inr apart) =
      let here : count_or (total_at unmet s) (laid s) ≡ count_or (total_at unmet s) (over s) = ap (count_or (total_at unmet s)) (one.counts.elsewhere s apart) in
      omega (arith, here, counted.read s, more s, ap one_if (ne_eqb slot s (λ e. apart (sym e))))

  pushed : (b : Bool) (s : ℕ) → count_by (is_at s) (cond b (slots ++ slot ∷ []) slots) ≡ count_by (is_at s) slots + cond b (one_if (eqb slot s)) 0
  pushed true s = count_by-push (is_at s) slots slot
  pushed false s = omega arith

  now : (s : ℕ) → count_by (is_at s) news ≡ count_by (is_at s) slots + cond (eqb (total_at unmet slot - count_by (is_at slot) freed) 1) (one_if (eqb slot s)) 0
  now s = ap (count_by (is_at s)) one.listed ∙ (pushed (eqb (count_or (total_at unmet slot) (over slot)) 1) s ∙ ap (λ n. count_by (is_at s) slots + cond (eqb n 1) (one_if (eqb slot s)) 0) (counted.read slot))

  off_by : (b c : Bool) → c ≡ false → cond b (one_if c) 0 ≡ 0
  off_by true c none = ap one_if none
  off_by false c none = refl

  listed_by : (s : ℕ) → (s ≡ slot) ⊎ (s ≢ slot) → count_by (is_at s) news ≡ one_if (opens_by (total_at unmet s) (count_by (is_at s) (freed ++ slot ∷ [])))
  listed_by s (inl same) =
      let here : cond (eqb (total_at unmet slot - count_by (is_at slot) freed) 1) (one_if (eqb slot s)) 0 ≡ one_if (eqb (total_at unmet s - count_by (is_at s) freed) 1) =
      (λ i. cond (eqb (total_at unmet (sym same i) - count_by (is_at (sym same i)) freed) 1) (one_if (eq-eqb slot s (sym same) i)) 0) in
      let times : count_by (is_at s) (freed ++ slot ∷ []) ≡ count_by (is_at s) freed + 1 = more s ∙ ap (λ b. count_by (is_at s) freed + one_if b) (eq-eqb slot s (sym same)) in
      now s
      ∙ ((λ i. counted.listed s i + here i) ∙ (sym (once_more (total_at unmet s) (count_by (is_at s) freed)) ∙ ap (λ n. one_if (opens_by (total_at unmet s) n)) (sym times)))
  listed_by s (inr apart) =
      let off = ne_eqb slot s (λ e. apart (sym e)) in
      let none = off_by (eqb (total_at unmet slot - count_by (is_at slot) freed) 1) (eqb slot s) off in
      let times : count_by (is_at s) (freed ++ slot ∷ []) ≡ count_by (is_at s) freed = omega (arith, more s, ap one_if off) in
      let same : count_by (is_at s) news ≡ count_by (is_at s) slots = omega (arith, now s, none) in
      same ∙ (counted.listed s ∙ ap (λ n. one_if (opens_by (total_at unmet s) n)) (sym times))

-- in order, they are those that open
pub end_counted : (unmet freed : List ℕ) (over : ℕ → Option ℕ) (slots ss : List ℕ) → IsCounted unmet freed over slots → length unmet ≤ SLOT_LIMIT → IsNonDecreasing ss → IsPermutation slots ss → (olds news : List Watch)
    → ((s : ℕ) → unmet_of olds s ≡ total_at unmet s) → ((s : ℕ) → unmet_of news s ≡ total_at unmet s - count_by (is_at s) freed) → ss ≡ opened_between olds news
unfolding opened_between
end_counted unmet freed over slots ss counted within rises moved olds news was then =
    ordered (has_opened olds news) SLOT_LIMIT slots ss rises moved (λ s. counted.listed s ∙ λ i. one_if (ltb 0 (sym (was s) i) && eqb (sym (then s) i) 0)) past
  where
    past : (s : ℕ) → SLOT_LIMIT ≤ s → has_opened olds news s ≡ false
    past s high =
        let none : unmet_of olds s ≡ 0 = was s ∙ ap total_in (slice_get_past unmet s (omega (arith, within))) in
        ap (λ b. b && eqb (unmet_of news s) 0) (le-ltb 0 (unmet_of olds s) (omega arith))
