-- A book that is made of subscriptions and of slots: its subscriptions so far, and its attempts from a slot on.
use Rattle.std.proofs.Common.{◌≡◌, ℕ, zero, suc, ◌+◌, ◌<◌, ◌≤◌, ◌^◌, ◌++◌, true, false, cond, eqb, ltb, List, [], ◌∷◌, take, drop, replicate, Option, Some, None, refl, sym, ap, subst, ◌∙◌, arith}
use Rattle.std.specs.List.{list_all, slice_get, slice_set, sum_by}
use Rattle.std.proofs.lemmas.Bool.{eq-eqb, le-ltb, ltb-true, ne_eqb}
use Rattle.std.proofs.lemmas.List.Sums.{sum_by-cons, sum_by-take-drop}
use Rattle.std.proofs.lemmas.Option.{none-some, same_Some}
use Rattle.farm_types.specs.declared.attempt.ProcRow.{ProcRow}
use Rattle.farm_types.specs.declared.limits.TheConstants.{MOST_HOSTS}
use Rattle.farm_types.specs.declared.rows.SubRow.{SubRow}
use Rattle.farm_types.specs.Kept.{is_subscribed}
use Rattle.farm_types.specs.Rising.{IsRising, sub_key}
use Rattle.farm_types.specs.Subs.{with_sub}
use Rattle.farm_types.specs.Sums.{cores_in}
use Rattle.farm_types.proofs.Lists.{and_both, list_all-at}
use Rattle.attempt_book.specs.Book.{AttemptLists, cores_booked, flat}
use Rattle.attempt_book.specs.Restore.{CanResumeIn, is_known_proc}
use Rattle.attempt_book.proofs.KnownAttempts.{slice_set-none}

-- ---- subscriptions

rising_within : (low high : ℕ) (subs : List SubRow) → IsRising sub_key low subs high → low ≤ high
rising_within low high [] rise = rise
rising_within low high (s ∷ ss) rise = omega (arith, rise.0, rising_within (s.sub + 1) high ss rise.1)

-- the numbers are between the bounds
rising_between : (low high : ℕ) (subs : List SubRow) (i : ℕ) (row : SubRow) → IsRising sub_key low subs high → slice_get subs i ≡ Some row → (low ≤ row.sub) × (row.sub < high)
rising_between low high [] i row rise at = absurd (none-some row at)
rising_between low high (s ∷ ss) zero row rise at =
    let same : s.sub ≡ row.sub = ap (λ (x : SubRow). x.sub) (same_Some s row at) in
    (omega (arith, rise.0, same), omega (arith, rising_within (s.sub + 1) high ss rise.1, same))
rising_between low high (s ∷ ss) (suc i) row rise at =
    let rest = rising_between (s.sub + 1) high ss i row rise.1 at in
    (omega (arith, rise.0, rest.0), rest.1)

pub rising_below : (low high : ℕ) (subs : List SubRow) (i : ℕ) (row : SubRow) → IsRising sub_key low subs high → slice_get subs i ≡ Some row → row.sub < high
rising_below low high subs i row rise at = (rising_between low high subs i row rise at).1

-- the next one goes last
pub set_next : (low high : ℕ) (subs : List SubRow) (i : ℕ) (row : SubRow) → IsRising sub_key low subs high → slice_get subs i ≡ Some row → with_sub row (take i subs) ≡ take (suc i) subs
set_next low high [] i row rise at = absurd (none-some row at)
set_next low high (s ∷ ss) zero row rise at = ap (λ (x : SubRow). x ∷ []) (sym (same_Some s row at))
set_next low high (s ∷ ss) (suc i) row rise at =
    let after = (rising_between (s.sub + 1) high ss i row rise.1 at).0 in
    let apart : eqb s.sub row.sub ≡ false = ne_eqb s.sub row.sub (λ e. absurd (omega arith)) in
    let later : ltb row.sub s.sub ≡ false = le-ltb row.sub s.sub (omega arith) in
    rw (apart, later) (ap (λ (rows : List SubRow). s ∷ rows) (set_next (s.sub + 1) high ss i row rise.1 at))

-- ---- attempts

free_before : (n k : ℕ) (ps : List (Option ProcRow)) → k < n → slice_get (replicate n None ++ ps) k ≡ Some None
free_before zero k ps below = absurd (omega arith)
free_before (suc n) zero ps below = refl
free_before (suc n) (suc k) ps below = free_before n k ps (omega arith)

set_last : (k : ℕ) (o : Option ProcRow) (ps : List (Option ProcRow)) → slice_set (replicate (suc k) None ++ ps) k o ≡ replicate k None ++ (o ∷ ps)
set_last zero o ps = refl
set_last (suc k) o ps = ap (λ (os : List (Option ProcRow)). None ∷ os) (set_last k o ps)

drop_there : {X : Type 0} (xs : List X) (k : ℕ) (x : X) → slice_get xs k ≡ Some x → drop k xs ≡ x ∷ drop (suc k) xs
drop_there [] k x at = absurd (none-some x at)
drop_there (y ∷ ys) zero x at = ap (λ z. z ∷ ys) (same_Some y x at)
drop_there (y ∷ ys) (suc k) x at = drop_there ys k x at

-- without attempts in the slots before one
abbrev pub from_slot : ℕ → List (Option ProcRow) → List (Option ProcRow)
from_slot n procs = replicate n None ++ drop n procs

resumed_by : (k : ℕ) (procs : List (Option ProcRow)) (o : Option ProcRow) → slice_get procs k ≡ Some o → slice_set (from_slot (suc k) procs) k o ≡ from_slot k procs
resumed_by k procs o at = set_last k o (drop (suc k) procs) ∙ ap (λ (ps : List (Option ProcRow)). replicate k None ++ ps) (sym (drop_there procs k o at))

pub resumed : (n k : ℕ) (procs : List (Option ProcRow)) (o : Option ProcRow) → n ≡ suc k → slice_get procs k ≡ Some o → slice_set (from_slot n procs) k o ≡ from_slot k procs
resumed n k procs o next at = ap (λ (m : ℕ). slice_set (from_slot m procs) k o) next ∙ resumed_by k procs o at

free_sum : (weight : Option ProcRow → ℕ) (n : ℕ) (ps : List (Option ProcRow)) → weight None ≡ 0 → sum_by weight (replicate n None ++ ps) ≡ sum_by weight ps
free_sum weight zero ps none = refl
free_sum weight (suc n) ps none = omega (arith, sum_by-cons weight None (replicate n None ++ ps), none, free_sum weight n ps none)

own : (n amount : ℕ) → cond (eqb n n) amount 0 ≡ amount
own n amount = ap (λ b. cond b amount 0) (eq-eqb n n refl)

-- what is booked from a slot on is not more than all
left_booked : (k : ℕ) (procs : List (Option ProcRow)) (p : ProcRow) → slice_get procs k ≡ Some (Some p) → cores_booked (from_slot (suc k) procs) p.sub + p.cores ≤ cores_booked procs p.sub
left_booked k procs p at =
    let weight = cores_in p.sub in
    let later : sum_by weight (from_slot (suc k) procs) ≡ sum_by weight (drop (suc k) procs) = free_sum weight (suc k) (drop (suc k) procs) refl in
    let from : sum_by weight (drop k procs) ≡ weight (Some p) + sum_by weight (drop (suc k) procs) = ap (sum_by weight) (drop_there procs k (Some p) at) ∙ sum_by-cons weight (Some p) (drop (suc k) procs) in
    let mine : weight (Some p) ≡ p.cores = own p.sub p.cores in
    omega (arith, later, from, mine, sum_by-take-drop weight procs k)

can_by : (b : AttemptLists) (procs : List (Option ProcRow)) (k : ℕ) (o : Option ProcRow) → b.procs ≡ from_slot (suc k) procs → slice_get procs k ≡ Some o
    → list_all (is_known_proc b.subs) procs ≡ true → ((n : ℕ) → cores_booked procs n < 2 ^ 32) → CanResumeIn b k o
can_by b procs k None are at known booked = ap (λ (ps : List (Option ProcRow)). slice_get ps k) are ∙ free_before (suc k) k (drop (suc k) procs) (omega arith)
can_by b procs k (Some p) are at known booked =
    let both = and_both (ltb p.host MOST_HOSTS) (is_subscribed b.subs p) (list_all-at (is_known_proc b.subs) procs k (Some p) known at) in
    let same : cores_booked b.procs p.sub ≡ cores_booked (from_slot (suc k) procs) p.sub = ap (λ (ps : List (Option ProcRow)). cores_booked ps p.sub) are in
    record {
      free = ap (λ (ps : List (Option ProcRow)). slice_get ps k) are ∙ free_before (suc k) k (drop (suc k) procs) (omega arith);
      host_within = ltb-true p.host MOST_HOSTS both.0;
      there = both.1;
      room = omega (arith, same, left_booked k procs p at, booked p.sub);
    }

-- where the slots from one on have their attempts, the one before it can have its own
pub can_resume : (b : AttemptLists) (procs : List (Option ProcRow)) (n k : ℕ) (o : Option ProcRow) → b.procs ≡ from_slot n procs → n ≡ suc k → slice_get procs k ≡ Some o
    → list_all (is_known_proc b.subs) procs ≡ true → ((m : ℕ) → cores_booked procs m < 2 ^ 32) → CanResumeIn b k o
can_resume b procs n k o are next at known booked = can_by b procs k o (are ∙ ap (λ (m : ℕ). from_slot m procs) next) at known booked

-- a slot without an attempt stays as it is
pub left_none : (b : AttemptLists) (slot : ℕ) (o : Option ProcRow) → o ≡ None → CanResumeIn b slot o → b ≡ record b { procs = slice_set b.procs slot o }
left_none b slot o is can =
    let at = subst (CanResumeIn b slot) is can in
    let same : slice_set b.procs slot o ≡ b.procs = ap (slice_set b.procs slot) is ∙ slice_set-none b.procs slot (ap flat at) in
    λ j. record { subs = b.subs; procs = sym same j }
