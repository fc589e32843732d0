-- How many attempts are on silent hosts: host by host, and none where no host is silent.
use Rattle.std.proofs.Common.{◌≡◌, ℕ, suc, zero, ◌+◌, ◌≤◌, ◌&&◌, Bool, true, false, cond, List, [], ◌∷◌, length, filter, nat_lt, Option, Some, None, refl, sym, ap, ◌∙◌, arith}
use Rattle.std.specs.Prelude.{◌==◌}
use Rattle.std.specs.List.{slice_get}
use Rattle.std.proofs.lemmas.Bool.{eqb-false, eqb-true, le-ltb, ltb-false, ltb-true}
use Rattle.std.proofs.lemmas.Option.{slice_get_past}
use Rattle.farm_types.specs.declared.attempt.ProcRow.{ProcRow}
use Rattle.farm_types.specs.declared.rows.HostRow.{HostRow}
use Rattle.farm_types.specs.declared.slot_row.SlotRow.{SlotRow}
use Rattle.farm_types.specs.Farm.{Farm, for_some}
use Rattle.farm_types.specs.Hosts.{count_unheard, is_unheard}
use Rattle.farm_types.specs.Lost.{count_on, runs_on}
use Rattle.farm_types.specs.Step.{is_silent}
use Rattle.farm_changes.specs.SilentCounts.{is_silent_one}

-- ---- counts by tests

-- 1 where the test passes
abbrev pub weight : Bool → ℕ
weight b = cond b 1 0

count_by : (b : Bool) (s : SlotRow) (ss : List SlotRow) → length (cond b (s ∷ ss) ss) ≡ weight b + length ss
count_by true s ss = omega arith
count_by false s ss = omega arith

pub counted : (test : ℕ → Bool) (s : SlotRow) (ss : List SlotRow) → count_on test (s ∷ ss) ≡ weight (runs_on test s) + count_on test ss
counted test s ss = count_by (runs_on test s) s (filter (runs_on test) ss)

weight_most : (b : Bool) → weight b ≤ 1
weight_most true = omega arith
weight_most false = omega arith

pub count_within : (test : ℕ → Bool) (slots : List SlotRow) → count_on test slots ≤ length slots
count_within test [] = omega arith
count_within test (s ∷ ss) = omega (arith, counted test s ss, weight_most (runs_on test s), count_within test ss)

-- the third test counts what the first two do
abbrev pub Joins : (ℕ → Bool) → (ℕ → Bool) → (ℕ → Bool) → Type 0
Joins t u v = (k : ℕ) → weight (v k) ≡ weight (t k) + weight (u k)

joined_at : (t u v : ℕ → Bool) (o : Option ProcRow) → Joins t u v
    → weight (for_some o (λ (p : ProcRow). v p.host)) ≡ weight (for_some o (λ (p : ProcRow). t p.host)) + weight (for_some o (λ (p : ProcRow). u p.host))
joined_at t u v None joins = refl
joined_at t u v (Some p) joins = joins p.host

pub count_joined : (t u v : ℕ → Bool) (slots : List SlotRow) → Joins t u v → count_on v slots ≡ count_on t slots + count_on u slots
count_joined t u v [] joins = refl
count_joined t u v (s ∷ ss) joins = omega (arith, counted t s ss, counted u s ss, counted v s ss, joined_at t u v s.proc joins, count_joined t u v ss joins)

alike_at : (t u : ℕ → Bool) (o : Option ProcRow) → ((k : ℕ) → t k ≡ u k) → for_some o (λ (p : ProcRow). t p.host) ≡ for_some o (λ (p : ProcRow). u p.host)
alike_at t u None same = refl
alike_at t u (Some p) same = same p.host

pub count_alike : (t u : ℕ → Bool) (slots : List SlotRow) → ((k : ℕ) → t k ≡ u k) → count_on t slots ≡ count_on u slots
count_alike t u [] same = refl
count_alike t u (s ∷ ss) same = omega (arith, counted t s ss, counted u s ss, ap weight (alike_at t u s.proc same), count_alike t u ss same)

nothing : (slots : List SlotRow) → count_on (λ (k : ℕ). false) slots ≡ 0
nothing [] = refl
nothing (s ∷ ss) = omega (arith, counted (λ (k : ℕ). false) s ss, ap weight (off s.proc), nothing ss)
  where
    off : (o : Option ProcRow) → for_some o (λ (p : ProcRow). false) ≡ false
    off None = refl
    off (Some p) = refl

pub count_nothing : (t : ℕ → Bool) (slots : List SlotRow) → ((k : ℕ) → t k ≡ false) → count_on t slots ≡ 0
count_nothing t slots off = count_alike t (λ (k : ℕ). false) slots off ∙ nothing slots

-- ---- one host

same_one : (f : Farm) (moment host k : ℕ) (b : Bool) → (k == host) ≡ b → is_silent f moment host ≡ true → is_silent_one f moment host k ≡ b
same_one f moment host k true is silent = rw (is, ap (is_silent f moment) (eqb-true k host is), silent) refl
same_one f moment host k false is silent = rw is refl

-- of a host that is silent all attempts are counted, of another one none
pub count_silent_one : (f : Farm) (moment host : ℕ) → is_silent f moment host ≡ true → count_on (is_silent_one f moment host) f.slots ≡ count_on (λ k. k == host) f.slots
count_silent_one f moment host silent = count_alike (is_silent_one f moment host) (λ k. k == host) f.slots (λ k. same_one f moment host k (k == host) refl silent)

other_one : (f : Farm) (moment host k : ℕ) (b : Bool) → (k == host) ≡ b → is_silent f moment host ≡ false → is_silent_one f moment host k ≡ false
other_one f moment host k true is heard = rw (is, ap (is_silent f moment) (eqb-true k host is), heard) refl
other_one f moment host k false is heard = rw is refl

pub count_heard_one : (f : Farm) (moment host : ℕ) → is_silent f moment host ≡ false → count_on (is_silent_one f moment host) f.slots ≡ 0
count_heard_one f moment host heard = count_nothing (is_silent_one f moment host) f.slots (λ k. other_one f moment host k (k == host) refl heard)

-- ---- the hosts below a number

abbrev pub is_silent_below : Farm → ℕ → ℕ → ℕ → Bool
is_silent_below f moment n k = nat_lt k n && is_silent f moment k

pub count_below-none : (f : Farm) (moment : ℕ) → count_on (is_silent_below f moment 0) f.slots ≡ 0
count_below-none f moment =
    count_nothing (is_silent_below f moment 0) f.slots (λ k. let off : nat_lt k 0 ≡ false = le-ltb k 0 (omega arith) in ap (λ b. b && is_silent f moment k) off)

joins_by : (f : Farm) (moment n k : ℕ) (same below next : Bool) → (k == n) ≡ same → nat_lt k n ≡ below → nat_lt k (n + 1) ≡ next
    → weight (is_silent_below f moment (n + 1) k) ≡ weight (is_silent_below f moment n k) + weight (is_silent_one f moment n k)
joins_by f moment n k true true next is below more = absurd (omega (arith, eqb-true k n is, ltb-true k n below))
joins_by f moment n k true false true is below more = rw (is, below, more) (omega arith)
joins_by f moment n k true false false is below more = absurd (omega (arith, eqb-true k n is, ltb-false k (n + 1) more))
joins_by f moment n k false true true is below more = rw (is, below, more) (omega arith)
joins_by f moment n k false true false is below more = absurd (omega (arith, ltb-true k n below, ltb-false k (n + 1) more))
joins_by f moment n k false false true is below more = absurd (let apart = eqb-false k n is in omega (arith, ltb-false k n below, ltb-true k (n + 1) more))
joins_by f moment n k false false false is below more = rw (is, below, more) refl

pub count_below-next : (f : Farm) (moment n : ℕ) → count_on (is_silent_below f moment (n + 1)) f.slots ≡ count_on (is_silent_below f moment n) f.slots + count_on (is_silent_one f moment n) f.slots
count_below-next f moment n =
    count_joined (is_silent_below f moment n) (is_silent_one f moment n) (is_silent_below f moment (n + 1)) f.slots (λ k. joins_by f moment n k (k == n) (nat_lt k n) (nat_lt k (n + 1)) refl refl refl)

all_by : (f : Farm) (moment k : ℕ) (b : Bool) → nat_lt k (length f.hosts) ≡ b → is_silent_below f moment (length f.hosts) k ≡ is_silent f moment k
all_by f moment k true below = ap (λ b. b && is_silent f moment k) below
all_by f moment k false below =
    ap (λ b. b && is_silent f moment k) below
    ∙ sym (ap (λ (o : Option HostRow). for_some o (is_unheard moment)) (slice_get_past f.hosts k (ltb-false k (length f.hosts) below)))

pub count_below-all : (f : Farm) (moment : ℕ) → count_on (is_silent_below f moment (length f.hosts)) f.slots ≡ count_on (is_silent f moment) f.slots
count_below-all f moment = count_alike (is_silent_below f moment (length f.hosts)) (is_silent f moment) f.slots (λ k. all_by f moment k (nat_lt k (length f.hosts)) refl)

-- ---- where no host is silent

none_by : {X : Type 0} (b : Bool) (x : X) (ys : List X) → length (cond b (x ∷ ys) ys) ≡ 0 → (b ≡ false) × (length ys ≡ 0)
none_by true x ys e = absurd (omega (arith, e))
none_by false x ys e = (refl, e)

none_silent : (moment : ℕ) (hosts : List HostRow) (n : ℕ) → count_unheard moment hosts ≡ 0 → for_some (slice_get hosts n) (is_unheard moment) ≡ false
none_silent moment [] n none = refl
none_silent moment (row ∷ rows) zero none = (none_by (is_unheard moment row) row (filter (is_unheard moment) rows) none).0
none_silent moment (row ∷ rows) (suc n) none = none_silent moment rows n (none_by (is_unheard moment row) row (filter (is_unheard moment) rows) none).1

pub count_none : (f : Farm) (moment : ℕ) → count_unheard moment f.hosts ≡ 0 → count_on (is_silent f moment) f.slots ≡ 0
count_none f moment none = count_nothing (is_silent f moment) f.slots (λ n. none_silent moment f.hosts n none)
