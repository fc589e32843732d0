-- Hosts that are silent, one after another: those below a number, one more, and all.
use Rattle.std.proofs.Common.{◌≡◌, ℕ, suc, zero, ◌+◌, ◌<◌, ◌≤◌, ◌&&◌, Bool, true, false, cond, List, [], ◌∷◌, length, filter, nat_lt, Option, refl, sym, ap, ◌∙◌, arith}
use Rattle.std.specs.Prelude.{◌==◌}
use Rattle.std.specs.List.{slice_get}
use Rattle.std.specs.Cmp.Derive.{both_true}
use Rattle.std.proofs.lemmas.Bool.{and_right, eqb-false, eqb-true, lt-ltb, le-ltb, ltb-false, ltb-true}
use Rattle.std.proofs.lemmas.Option.{slice_get_past}
use Rattle.farm_types.specs.declared.rows.HostRow.{HostRow}
use Rattle.farm_types.specs.declared.slot_row.SlotRow.{SlotRow}
use Rattle.farm_types.specs.Farm.{Farm, changed_at, for_some}
use Rattle.farm_types.specs.Hosts.{count_unheard, down_row, is_unheard, silenced, silenced_row}
use Rattle.farm_types.specs.Lost.{lose_on}
use Rattle.farm_types.specs.Step.{expire, is_silent}
use Rattle.farm_types.proofs.ChangesInTurn.{pass_end}
use Rattle.farm_types.proofs.Lists.{and_both}
use Rattle.farm_draft.specs.Lost.{expired_one}
use Rattle.farm_draft.proofs.LostRows.{lose_alike, lose_none, lose_twice}
use Rattle.farm_draft.proofs.Passed.{passed, passed_next, slice_get-passed}

-- the host is silent, and its number below that one
abbrev pub is_silent_below : Farm → ℕ → ℕ → ℕ → Bool
is_silent_below f moment n k = nat_lt k n && is_silent f moment k

-- the silent hosts below a number are down, and the attempts on them lost
abbrev pub expired_below : Farm → ℕ → ℕ → Farm
expired_below f moment n = record f { hosts = passed (silenced_row moment) n f.hosts; slots = lose_on (is_silent_below f moment n) f.slots }

-- ---- none

pub expired_below-none : (f : Farm) (moment : ℕ) → expired_below f moment 0 ≡ f
expired_below-none f moment =
    ap (λ (ss : List SlotRow). record f { slots = ss })
    (lose_none (is_silent_below f moment 0) (λ k. let off : nat_lt k 0 ≡ false = le-ltb k 0 (omega arith) in ap (λ b. b && is_silent f moment k) off) f.slots)

-- ---- one more

module _ (f : Farm) (moment n : ℕ) where
  below_next : (k : ℕ) → nat_lt k n ≡ true → nat_lt k (n + 1) ≡ true
  below_next k below =
      let lt = ltb-true k n below in
      lt-ltb k (n + 1) (omega (arith, lt))

  apart_by : (k : ℕ) (b : Bool) → nat_lt k n ≡ b → (k ≡ n → ⊥) → nat_lt k (n + 1) ≡ b
  apart_by k true is apart = below_next k is
  apart_by k false is apart =
      let past = ltb-false k n is in
      le-ltb k (n + 1) (ahead past)
    where
      ahead : n ≤ k → n + 1 ≤ k
      ahead past = omega arith

  module _ (silent : is_silent f moment n ≡ true) where
    stays_below : (k : ℕ) → is_silent_below f moment n k ≡ true → is_silent_below f moment (n + 1) k ≡ true
    stays_below k on =
        let both = and_both (nat_lt k n) (is_silent f moment k) on in
        both_true (below_next k both.0) both.1

    comes_by : (k : ℕ) (b : Bool) → (k == n) ≡ b → is_silent_below f moment n k ≡ false → b ≡ is_silent_below f moment (n + 1) k
    comes_by k true same off =
        let is = eqb-true k n same in
        let below : k < n + 1 = omega (arith, is) in
        sym (both_true (lt-ltb k (n + 1) below) (ap (is_silent f moment) is ∙ silent))
    comes_by k false same off = sym (ap (λ b. b && is_silent f moment k) (apart_by k (nat_lt k n) refl (eqb-false k n same)) ∙ off)

    silent_slots : (slots : List SlotRow) → lose_on (λ k. k == n) (lose_on (is_silent_below f moment n) slots) ≡ lose_on (is_silent_below f moment (n + 1)) slots
    silent_slots slots =
        lose_twice (is_silent_below f moment n) (λ k. k == n) (is_silent_below f moment (n + 1)) stays_below (λ k off. comes_by k (k == n) refl off) slots

  module _ (heard : is_silent f moment n ≡ false) where
    heard_by : (k : ℕ) (b : Bool) → (k == n) ≡ b → is_silent_below f moment n k ≡ is_silent_below f moment (n + 1) k
    heard_by k true same =
        let off : is_silent f moment k ≡ false = ap (is_silent f moment) (eqb-true k n same) ∙ heard in
        and_right (nat_lt k n) (is_silent f moment k) off ∙ sym (and_right (nat_lt k (n + 1)) (is_silent f moment k) off)
    heard_by k false same = sym (ap (λ b. b && is_silent f moment k) (apart_by k (nat_lt k n) refl (eqb-false k n same)))

    heard_slots : (slots : List SlotRow) → lose_on (is_silent_below f moment n) slots ≡ lose_on (is_silent_below f moment (n + 1)) slots
    heard_slots slots = lose_alike (is_silent_below f moment n) (is_silent_below f moment (n + 1)) (λ k. heard_by k (k == n) refl) slots

  slots_by : (b : Bool) → is_silent f moment n ≡ b → (let slots = lose_on (is_silent_below f moment n) f.slots in cond b (lose_on (λ k. k == n) slots) slots ≡ lose_on (is_silent_below f moment (n + 1)) f.slots)
  slots_by true silent = silent_slots silent f.slots
  slots_by false heard = heard_slots heard f.slots

  pub expired_below-next : expired_one (expired_below f moment n) moment n ≡ expired_below f moment (n + 1)
  expired_below-next =
      let slots = lose_on (is_silent_below f moment n) f.slots in
      let here : is_silent (expired_below f moment n) moment n ≡ is_silent f moment n = ap (λ (o : Option HostRow). for_some o (is_unheard moment)) (slice_get-passed (silenced_row moment) n f.hosts) in
      ap (λ b. record f { hosts = changed_at (passed (silenced_row moment) n f.hosts) n (silenced_row moment); slots = cond b (lose_on (λ k. k == n) slots) slots }) here
      ∙ (ap (λ (hs : List HostRow). record f { hosts = hs; slots = cond (is_silent f moment n) (lose_on (λ k. k == n) slots) slots }) (passed_next (silenced_row moment) n f.hosts)
      ∙ ap (λ (ss : List SlotRow). record f { hosts = passed (silenced_row moment) (n + 1) f.hosts; slots = ss }) (slots_by (is_silent f moment n) refl))

-- ---- all

all_by : (f : Farm) (moment k : ℕ) (b : Bool) → nat_lt k (length f.hosts) ≡ b → is_silent_below f moment (length f.hosts) k ≡ is_silent f moment k
all_by f moment k true below = ap (λ b. b && is_silent f moment k) below
all_by f moment k false below =
    ap (λ b. b && is_silent f moment k) below
    ∙ sym (ap (λ (o : Option HostRow). for_some o (is_unheard moment)) (slice_get_past f.hosts k (ltb-false k (length f.hosts) below)))

pub expired_below-all : (f : Farm) (moment : ℕ) → expired_below f moment (length f.hosts) ≡ expire f moment
expired_below-all f moment =
    ap (λ (hs : List HostRow). record f { hosts = hs; slots = lose_on (is_silent_below f moment (length f.hosts)) f.slots }) (pass_end (silenced_row moment) f.hosts)
    ∙ ap (λ (ss : List SlotRow). record f { hosts = silenced moment f.hosts; slots = ss })
    (lose_alike (is_silent_below f moment (length f.hosts)) (is_silent f moment) (λ k. all_by f moment k (nat_lt k (length f.hosts)) refl) f.slots)

-- ---- where no host is silent

uncounted_by : {X : Type 0} (b : Bool) (x : X) (ys : List X) → length (cond b (x ∷ ys) ys) ≡ 0 → (b ≡ false) × (length ys ≡ 0)
uncounted_by true x ys e = absurd (omega (arith, e))
uncounted_by false x ys e = (refl, e)

none_silenced : (moment : ℕ) (hosts : List HostRow) → count_unheard moment hosts ≡ 0 → silenced moment hosts ≡ hosts
none_silenced moment [] none = refl
none_silenced moment (row ∷ rows) none =
    let first = uncounted_by (is_unheard moment row) row (filter (is_unheard moment) rows) none in
    let here : silenced_row moment row ≡ row = ap (λ b. cond b (down_row row) row) first.0 in
    ap (λ x. x ∷ silenced moment rows) here ∙ ap (λ ys. row ∷ ys) (none_silenced moment rows first.1)

none_silent : (moment : ℕ) (hosts : List HostRow) (n : ℕ) → count_unheard moment hosts ≡ 0 → for_some (slice_get hosts n) (is_unheard moment) ≡ false
none_silent moment [] n none = refl
none_silent moment (row ∷ rows) zero none = (uncounted_by (is_unheard moment row) row (filter (is_unheard moment) rows) none).0
none_silent moment (row ∷ rows) (suc n) none = none_silent moment rows n (uncounted_by (is_unheard moment row) row (filter (is_unheard moment) rows) none).1

pub expire_none : (f : Farm) (moment : ℕ) → count_unheard moment f.hosts ≡ 0 → expire f moment ≡ f
expire_none f moment none =
    ap (λ (hs : List HostRow). record f { hosts = hs; slots = lose_on (is_silent f moment) f.slots }) (none_silenced moment f.hosts none)
    ∙ ap (λ (ss : List SlotRow). record f { slots = ss }) (lose_none (is_silent f moment) (λ n. none_silent moment f.hosts n none) f.slots)
