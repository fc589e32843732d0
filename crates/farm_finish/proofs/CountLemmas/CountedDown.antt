-- How often a frame of each job was done so far, and which jobs have none left then.
use Rattle.std.proofs.Common.{◌≡◌, ◌≢◌, ℕ, ◌+◌, ◌-◌, Bool, true, false, cond, eqb, List, [], ◌∷◌, ◌++◌, Option, refl, sym, ap, subst, ◌∙◌, ◌⊎◌, inl, inr, arith}
use Rattle.std.specs.List.{count_by}
use Rattle.std.proofs.lemmas.Bool.{eq-eqb, ne_eqb}
use Rattle.farm_types.proofs.Changed.{places}
use Rattle.depend_graph.specs.Trial.{IsFreed, count_or, is_at}
use Rattle.depend_graph.proofs.Counts.{count_by-push, one_if}
use Rattle.farm_finish.specs.Closing.{ends_by}

pub record IsCounted (left : ℕ → ℕ) (freed : List ℕ) (over : ℕ → Option ℕ) (jobs : List ℕ) : Type 0 where
  pub read : (s : ℕ) → count_or (left s) (over s) ≡ left s - count_by (is_at s) freed
  pub listed : (s : ℕ) → count_by (is_at s) jobs ≡ one_if (ends_by (left s) (count_by (is_at s) freed))

once_more : (count times : ℕ) → one_if (ends_by count (times + 1)) ≡ one_if (ends_by count times) + one_if (eqb (count - times) 1)
once_more count times = grind arith

pub step_counted : (left : ℕ → ℕ) (freed : List ℕ) (over laid : ℕ → Option ℕ) (jobs news : List ℕ) (job : ℕ) → IsCounted left freed over jobs → IsFreed job (left job) over laid jobs news
    → IsCounted left (freed ++ job ∷ []) laid news
step_counted left freed over laid jobs news job counted one = record { read = λ s. read_by s (places s job); listed = λ s. listed_by s (places s job) } where
  more : (s : ℕ) → count_by (is_at s) (freed ++ job ∷ []) ≡ count_by (is_at s) freed + one_if (eqb job s)
  more s = count_by-push (is_at s) freed job

  read_by : (s : ℕ) → (s ≡ job) ⊎ (s ≢ job) → count_or (left s) (laid s) ≡ left s - count_by (is_at s) (freed ++ job ∷ [])
  read_by s (inl same) =
      let here : count_or (left s) (laid s) ≡ count_or (left s) (over s) - 1 = subst (λ (t : ℕ). count_or (left t) (laid t) ≡ count_or (left t) (over t) - 1) (sym same) (ap (count_or (left job)) one.counts.here) in
      omega (arith, here, counted.read s, more s, ap one_if (eq-eqb job s (sym same)))
  read_by s (inr apart) =
      let here : count_or (left s) (laid s) ≡ count_or (left s) (over s) = ap (count_or (left s)) (one.counts.elsewhere s apart) in
      omega (arith, here, counted.read s, more s, ap one_if (ne_eqb job s (λ e. apart (sym e))))

  pushed : (b : Bool) (s : ℕ) → count_by (is_at s) (cond b (jobs ++ job ∷ []) jobs) ≡ count_by (is_at s) jobs + cond b (one_if (eqb job s)) 0
  pushed true s = count_by-push (is_at s) jobs job
  pushed false s = omega arith

  now : (s : ℕ) → count_by (is_at s) news ≡ count_by (is_at s) jobs + cond (eqb (left job - count_by (is_at job) freed) 1) (one_if (eqb job s)) 0
  now s = ap (count_by (is_at s)) one.listed ∙ (pushed (eqb (count_or (left job) (over job)) 1) s ∙ ap (λ n. count_by (is_at s) jobs + cond (eqb n 1) (one_if (eqb job s)) 0) (counted.read job))

  off_by : (b c : Bool) → c ≡ false → cond b (one_if c) 0 ≡ 0
  off_by true c none = ap one_if none
  off_by false c none = refl

  listed_by : (s : ℕ) → (s ≡ job) ⊎ (s ≢ job) → count_by (is_at s) news ≡ one_if (ends_by (left s) (count_by (is_at s) (freed ++ job ∷ [])))
  listed_by s (inl same) =
      let here : cond (eqb (left job - count_by (is_at job) freed) 1) (one_if (eqb job s)) 0 ≡ one_if (eqb (left s - count_by (is_at s) freed) 1) =
      (λ i. cond (eqb (left (sym same i) - count_by (is_at (sym same i)) freed) 1) (one_if (eq-eqb job s (sym same) i)) 0) in
      let times : count_by (is_at s) (freed ++ job ∷ []) ≡ count_by (is_at s) freed + 1 = more s ∙ ap (λ b. count_by (is_at s) freed + one_if b) (eq-eqb job s (sym same)) in
      now s
      ∙ ((λ i. counted.listed s i + here i) ∙ (sym (once_more (left s) (count_by (is_at s) freed)) ∙ ap (λ n. one_if (ends_by (left s) n)) (sym times)))
  listed_by s (inr apart) =
      let off = ne_eqb job s (λ e. apart (sym e)) in
      let none = off_by (eqb (left job - count_by (is_at job) freed) 1) (eqb job s) off in
      let times : count_by (is_at s) (freed ++ job ∷ []) ≡ count_by (is_at s) freed = omega (arith, more s, ap one_if off) in
      let same : count_by (is_at s) news ≡ count_by (is_at s) jobs = omega (arith, now s, none) in
      same ∙ (counted.listed s ∙ ap (λ n. one_if (ends_by (left s) n)) (sym times))
