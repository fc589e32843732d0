-- What is booked of each subscription is on hosts, and of no host more is used than a host may have.
use Rattle.std.proofs.Common.{◌≡◌, ℕ, zero, suc, ◌+◌, ◌*◌, ◌<◌, ◌≤◌, Bool, true, false, cond, eqb, List, [], ◌∷◌, length, Option, Some, None, refl, sym, ap, ◌∙◌, inl, inr, arith}
use Rattle.std.specs.List.{list_all, slice_get, sum_by}
use Rattle.std.proofs.Math.Nat.{suc-mul}
use Rattle.std.proofs.lemmas.Bool.{eq-eqb}
use Rattle.std.proofs.lemmas.List.Sums.{sum_by-cons}
use Rattle.std.proofs.lemmas.Option.{slice_get_within}
use Rattle.farm_types.specs.declared.attempt.ProcRow.{ProcRow}
use Rattle.farm_types.specs.declared.limits.TheConstants.{MOST_CORES, MOST_HOSTS}
use Rattle.farm_types.specs.declared.rows.HostRow.{HostRow}
use Rattle.farm_types.specs.declared.slot_row.SlotRow.{SlotRow}
use Rattle.farm_types.specs.Farm.{Farm, for_any}
use Rattle.farm_types.specs.Kept.{KeepsRows, is_formed_host, is_on_host}
use Rattle.farm_types.specs.Run.{IsSound}
use Rattle.farm_types.specs.Sums.{booked_in, cores_in, cores_on}
use Rattle.farm_types.proofs.Changed.{places}
use Rattle.farm_types.proofs.Lists.{and_both, for_some_true, list_all-at, slice_get_below}
use Rattle.farm_law.proofs.FormedParts.{host_formed}

-- what live attempts in these slots use on a host, and of a subscription
abbrev used_in : List SlotRow → ℕ → ℕ
used_in slots host = sum_by (λ (s : SlotRow). cores_on host s.proc) slots

abbrev booked_of_slots : List SlotRow → ℕ → ℕ
booked_of_slots slots sub = sum_by (λ (s : SlotRow). cores_in sub s.proc) slots

-- the sum of the values at the numbers below one
abbrev sum_below : (ℕ → ℕ) → ℕ → ℕ
sum_below f zero = 0
sum_below f (suc n) = sum_below f n + f n

sum_split : (s : SlotRow) (ss : List SlotRow) (n : ℕ) → sum_below (used_in (s ∷ ss)) n ≡ sum_below (λ (h : ℕ). cores_on h s.proc) n + sum_below (used_in ss) n
sum_split s ss zero = refl
sum_split s ss (suc n) = omega (arith, sum_by-cons (λ (x : SlotRow). cores_on n x.proc) s ss, sum_split s ss n)

sum_bound : (f : ℕ → ℕ) (n most : ℕ) → ((h : ℕ) → h < n → f h ≤ most) → sum_below f n ≤ n * most
sum_bound f zero most each = omega arith
sum_bound f (suc n) most each =
    let rest : sum_below f n ≤ n * most = sum_bound f n most (λ h below. each h (omega arith)) in
    omega (arith, rest, each n (omega arith), suc-mul n most)

own : (n amount : ℕ) → cond (eqb n n) amount 0 ≡ amount
own n amount = ap (λ b. cond b amount 0) (eq-eqb n n refl)

on_one : (p : ProcRow) (n : ℕ) → p.host < n → p.cores ≤ sum_below (λ (h : ℕ). cores_on h (Some p)) n
on_one p zero below = absurd (omega arith)
on_one p (suc n) below =
    elim (places p.host n) as (λ c. p.cores ≤ sum_below (λ (h : ℕ). cores_on h (Some p)) n + cores_on n (Some p)) [
      | inl here ↦
          let mine : cores_on n (Some p) ≡ p.cores = ap (λ (h : ℕ). cores_on h (Some p)) (sym here) ∙ own p.host p.cores in
          omega (arith, mine)
      | inr apart ↦
          let before : p.host < n = omega arith in
          omega (arith, on_one p n before)
    ]

at_most : (b : Bool) (amount : ℕ) → cond b amount 0 ≤ amount
at_most true amount = omega arith
at_most false amount = omega arith

-- a live attempt's host is there
pub host_there : (hosts : List HostRow) (p : ProcRow) → is_on_host hosts p ≡ true → p.host < length hosts
host_there hosts p there =
    let found = for_some_true (slice_get hosts p.host) _ there in
    slice_get_within hosts p.host found.0 found.1

-- what an attempt books is not more than it uses of the hosts
booked_on : (hosts : List HostRow) (sub : ℕ) (o : Option ProcRow) → for_any o (is_on_host hosts) ≡ true → cores_in sub o ≤ sum_below (λ (h : ℕ). cores_on h o) (length hosts)
booked_on hosts sub None hosted = omega arith
booked_on hosts sub (Some p) hosted = omega (arith, at_most (eqb p.sub sub) p.cores, on_one p (length hosts) (host_there hosts p hosted))

booked_on_all : (hosts : List HostRow) (sub : ℕ) (slots : List SlotRow) → list_all (λ (s : SlotRow). for_any s.proc (is_on_host hosts)) slots ≡ true
    → booked_of_slots slots sub ≤ sum_below (used_in slots) (length hosts)
booked_on_all hosts sub [] hosted = omega arith
booked_on_all hosts sub (s ∷ ss) hosted =
    let on = and_both (for_any s.proc (is_on_host hosts)) (list_all (λ (x : SlotRow). for_any x.proc (is_on_host hosts)) ss) hosted in
    omega (arith, sum_by-cons (λ (x : SlotRow). cores_in sub x.proc) s ss, sum_split s ss (length hosts), booked_on hosts sub s.proc on.0, booked_on_all hosts sub ss on.1)

used_within : (f : Farm) → KeepsRows f → (h : ℕ) → h < length f.hosts → used_in f.slots h ≤ MOST_CORES
used_within f kept h below =
    let host = slice_get_below f.hosts h below in
    let sound : IsSound f = kept.sound in
    omega (arith, sound.cores h host.0 host.1, (host_formed host.0 (list_all-at is_formed_host f.hosts h host.0 kept.hosts.formed host.1)).cores.1)

pub booked_within : (f : Farm) → KeepsRows f → (sub : ℕ) → booked_in f sub ≤ MOST_HOSTS * MOST_CORES
booked_within f kept sub =
    let all : booked_in f sub ≤ sum_below (used_in f.slots) (length f.hosts) = booked_on_all f.hosts sub f.slots kept.attempts.hosted in
    let most : sum_below (used_in f.slots) (length f.hosts) ≤ length f.hosts * MOST_CORES = sum_bound (used_in f.slots) (length f.hosts) MOST_CORES (used_within f kept) in
    omega (arith, all, most, kept.hosts.count)
