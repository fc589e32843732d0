-- The kept sums stay those of the attempts when one begins, when one ends, and when slots are added; and they stay small.
use Rattle.std.proofs.Common.{◌≡◌, ℕ, zero, suc, ◌+◌, ◌-◌, ◌*◌, ◌^◌, ◌<◌, ◌≤◌, Bool, true, false, cond, eqb, List, [], ◌∷◌, ◌++◌, length, replicate, Option, Some, None, refl, sym, ap, subst, ◌∙◌, arith}
use Rattle.std.specs.List.{slice_get, slice_set, sum_by}
use Rattle.std.proofs.Math.Nat.{suc-mul}
use Rattle.std.proofs.lemmas.Bool.{eq-eqb}
use Rattle.std.proofs.lemmas.List.{length-replicate}
use Rattle.std.proofs.lemmas.List.Sums.{sum_by-append, sum_by-cons, sum_by-set}
use Rattle.std.proofs.lemmas.List.Folds.{sum_by-replicate}
use Rattle.std.proofs.lemmas.Option.{get_or_from_slice_get, slice_get_within}
use Rattle.farm_types.specs.declared.attempt.ProcRow.{ProcRow}
use Rattle.farm_types.specs.declared.limits.TheConstants.{MOST_HOSTS, SLOT_LIMIT, SUB_NUMBERS}
use Rattle.farm_types.specs.Farm.{changed_at}
use Rattle.farm_types.specs.Sums.{cores_in, cores_on, memory_on, total_at}
use Rattle.farm_types.proofs.Changed.{length-changed_at}
use Rattle.attempt_book.specs.Book.{cores_booked, cores_used, memory_used}
use Rattle.attempt_book.specs.Inside.{KeepsSums}
use Rattle.attempt_book.proofs.TotalAt.{lowered, raised}

-- the sum once one slot has another attempt, or none
set_sum : (weight : Option ProcRow → ℕ) (procs : List (Option ProcRow)) (slot : ℕ) (old new : Option ProcRow) → slice_get procs slot ≡ Some old → sum_by weight (slice_set procs slot new) + weight old ≡ sum_by weight procs + weight new
set_sum weight procs slot old new at =
    ap (λ o. sum_by weight (slice_set procs slot new) + weight o) (sym (get_or_from_slice_get procs slot old old at))
    ∙ sum_by-set weight procs slot new old (slice_get_within procs slot old at)

begun_sum : (weight : Option ProcRow → ℕ) (procs : List (Option ProcRow)) (slot : ℕ) (p : ProcRow) → weight None ≡ 0 → slice_get procs slot ≡ Some None → sum_by weight (slice_set procs slot (Some p)) ≡ sum_by weight procs + weight (Some p)
begun_sum weight procs slot p none free =
    let sum = set_sum weight procs slot None (Some p) free in
    omega (arith, none, sum)

ended_sum : (weight : Option ProcRow → ℕ) (procs : List (Option ProcRow)) (slot : ℕ) (p : ProcRow) → weight None ≡ 0 → slice_get procs slot ≡ Some (Some p) → sum_by weight (slice_set procs slot None) + weight (Some p) ≡ sum_by weight procs
ended_sum weight procs slot p none live =
    let sum = set_sum weight procs slot (Some p) None live in
    omega (arith, none, sum)

grown_sum : (weight : Option ProcRow → ℕ) (procs : List (Option ProcRow)) (added : ℕ) → weight None ≡ 0 → sum_by weight procs ≡ sum_by weight (procs ++ replicate added None)
grown_sum weight procs added none =
    let more : sum_by weight (replicate added None) ≡ added * 0 = sum_by-replicate weight added None ∙ ap (λ n. added * n) none in
    sym (sum_by-append weight procs (replicate added None) ∙ (omega (arith, more)))

module _ (procs : List (Option ProcRow)) (booked cores memory : List ℕ) (kept : KeepsSums procs booked cores memory) where
  module _ (slot : ℕ) (p : ProcRow) where
    pub begun_sums : slice_get procs slot ≡ Some None → p.host < MOST_HOSTS → p.sub < SUB_NUMBERS
        → KeepsSums (slice_set procs slot (Some p)) (changed_at booked p.sub (λ total. total + p.cores)) (changed_at cores p.host (λ total. total + p.cores)) (changed_at memory p.host (λ total. total + p.memory))
    begun_sums free host sub =
        let new : List (Option ProcRow) = slice_set procs slot (Some p) in
        record {
          booked_kept = raised booked p.sub p.cores (cores_booked procs) (cores_booked new) kept.booked_kept (omega (arith, sub, kept.booked_counted)) (λ n. begun_sum (cores_in n) procs slot p refl free);
          cores_kept = raised cores p.host p.cores (cores_used procs) (cores_used new) kept.cores_kept (omega (arith, host, kept.cores_counted)) (λ n. begun_sum (cores_on n) procs slot p refl free);
          memory_kept = raised memory p.host p.memory (memory_used procs) (memory_used new) kept.memory_kept (omega (arith, host, kept.memory_counted)) (λ n. begun_sum (memory_on n) procs slot p refl free);
          booked_counted = length-changed_at booked p.sub (λ total. total + p.cores) ∙ kept.booked_counted;
          cores_counted = length-changed_at cores p.host (λ total. total + p.cores) ∙ kept.cores_counted;
          memory_counted = length-changed_at memory p.host (λ total. total + p.memory) ∙ kept.memory_counted;
        }

    pub ended_sums : slice_get procs slot ≡ Some (Some p)
        → KeepsSums (slice_set procs slot None) (changed_at booked p.sub (λ total. total - p.cores)) (changed_at cores p.host (λ total. total - p.cores)) (changed_at memory p.host (λ total. total - p.memory))
    ended_sums live =
        let new : List (Option ProcRow) = slice_set procs slot None in
        record {
          booked_kept = lowered booked p.sub p.cores (cores_booked procs) (cores_booked new) kept.booked_kept (λ n. ended_sum (cores_in n) procs slot p refl live);
          cores_kept = lowered cores p.host p.cores (cores_used procs) (cores_used new) kept.cores_kept (λ n. ended_sum (cores_on n) procs slot p refl live);
          memory_kept = lowered memory p.host p.memory (memory_used procs) (memory_used new) kept.memory_kept (λ n. ended_sum (memory_on n) procs slot p refl live);
          booked_counted = length-changed_at booked p.sub (λ total. total - p.cores) ∙ kept.booked_counted;
          cores_counted = length-changed_at cores p.host (λ total. total - p.cores) ∙ kept.cores_counted;
          memory_counted = length-changed_at memory p.host (λ total. total - p.memory) ∙ kept.memory_counted;
        }

    -- what a live attempt uses is among the totals
    among : (weight : ℕ → Option ProcRow → ℕ) (totals : List ℕ) (n : ℕ) → weight n None ≡ 0 → ((m : ℕ) → total_at totals m ≡ sum_by (weight m) procs) → slice_get procs slot ≡ Some (Some p) → weight n (Some p) ≤ total_at totals n
    among weight totals n none totals_kept live = omega (arith, totals_kept n, ended_sum (weight n) procs slot p none live)

    own : (n amount : ℕ) → cond (eqb n n) amount 0 ≡ amount
    own n amount = ap (λ b. cond b amount 0) (eq-eqb n n refl)

    module _ (live : slice_get procs slot ≡ Some (Some p)) where
      pub booked_among : p.cores ≤ total_at booked p.sub
      booked_among = omega (arith, among cores_in booked p.sub refl kept.booked_kept live, own p.sub p.cores)

      pub cores_among : p.cores ≤ total_at cores p.host
      cores_among = omega (arith, among cores_on cores p.host refl kept.cores_kept live, own p.host p.cores)

      pub memory_among : p.memory ≤ total_at memory p.host
      memory_among = omega (arith, among memory_on memory p.host refl kept.memory_kept live, own p.host p.memory)

  pub grown_sums : (added : ℕ) → KeepsSums (procs ++ replicate added None) booked cores memory
  grown_sums added =
      record {
        booked_kept = λ n. kept.booked_kept n ∙ grown_sum (cores_in n) procs added refl;
        cores_kept = λ n. kept.cores_kept n ∙ grown_sum (cores_on n) procs added refl;
        memory_kept = λ n. kept.memory_kept n ∙ grown_sum (memory_on n) procs added refl;
        booked_counted = kept.booked_counted;
        cores_counted = kept.cores_counted;
        memory_counted = kept.memory_counted;
      }

-- ---- no slots

total_at-none : (count n : ℕ) → total_at (replicate count 0) n ≡ 0
total_at-none zero n = refl
total_at-none (suc count) zero = refl
total_at-none (suc count) (suc n) = total_at-none count n

made_of : (procs : List (Option ProcRow)) (booked cores memory : List ℕ) → procs ≡ [] → KeepsSums [] booked cores memory → KeepsSums procs booked cores memory
made_of procs booked cores memory none kept = subst (λ (ps : List (Option ProcRow)). KeepsSums ps booked cores memory) (sym none) kept

pub made_sums : (procs : List (Option ProcRow)) (booked cores memory : List ℕ) → procs ≡ [] → booked ≡ replicate SUB_NUMBERS 0 → cores ≡ replicate MOST_HOSTS 0 → memory ≡ replicate MOST_HOSTS 0 → KeepsSums procs booked cores memory
made_sums procs booked cores memory none booked_is cores_is memory_is =
    made_of procs booked cores memory none
    (record {
      booked_kept = λ n. ap (λ totals. total_at totals n) booked_is ∙ total_at-none SUB_NUMBERS n;
      cores_kept = λ n. ap (λ totals. total_at totals n) cores_is ∙ total_at-none MOST_HOSTS n;
      memory_kept = λ n. ap (λ totals. total_at totals n) memory_is ∙ total_at-none MOST_HOSTS n;
      booked_counted = ap length booked_is ∙ length-replicate {A = ℕ} SUB_NUMBERS 0;
      cores_counted = ap length cores_is ∙ length-replicate {A = ℕ} MOST_HOSTS 0;
      memory_counted = ap length memory_is ∙ length-replicate {A = ℕ} MOST_HOSTS 0;
    })

-- ---- small sums

-- a sum of small amounts is small
sum_by-small : (weight : Option ProcRow → ℕ) (most : ℕ) (procs : List (Option ProcRow)) → weight None ≡ 0 → ((i : ℕ) (p : ProcRow) → slice_get procs i ≡ Some (Some p) → weight (Some p) ≤ most) → sum_by weight procs ≤ length procs * most
sum_by-small weight most [] none small = omega arith
sum_by-small weight most (None ∷ os) none small =
    let rest : sum_by weight os ≤ length os * most = sum_by-small weight most os none (λ i p at. small (suc i) p at) in
    omega (arith, none, rest, sum_by-cons weight None os, suc-mul (length os) most)
sum_by-small weight most (Some p ∷ os) none small =
    let rest : sum_by weight os ≤ length os * most = sum_by-small weight most os none (λ i p at. small (suc i) p at) in
    omega (arith, small 0 p refl, rest, sum_by-cons weight (Some p) os, suc-mul (length os) most)

module _ (procs : List (Option ProcRow)) (n : ℕ) (count : length procs ≤ SLOT_LIMIT) where
  small_by : (b : Bool) (amount most : ℕ) → amount ≤ most → cond b amount 0 ≤ most
  small_by true amount most within = within
  small_by false amount most within = omega arith

  -- the totals are far below the most
  pub cores_small : ((i : ℕ) (p : ProcRow) → slice_get procs i ≡ Some (Some p) → p.cores < 2 ^ 32) → cores_used procs n < 2 ^ 63
  cores_small each =
      let small : cores_used procs n ≤ length procs * 2 ^ 32 = sum_by-small (cores_on n) (2 ^ 32) procs refl (λ i p at. small_by (eqb p.host n) p.cores (2 ^ 32) (omega (arith, each i p at))) in
      omega arith

  pub memory_small : ((i : ℕ) (p : ProcRow) → slice_get procs i ≡ Some (Some p) → p.memory < 2 ^ 64) → memory_used procs n < 2 ^ 127
  memory_small each =
      let small : memory_used procs n ≤ length procs * 2 ^ 64 = sum_by-small (memory_on n) (2 ^ 64) procs refl (λ i p at. small_by (eqb p.host n) p.memory (2 ^ 64) (omega (arith, each i p at))) in
      omega arith
