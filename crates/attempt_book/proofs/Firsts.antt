-- The first slot with a live attempt on a host, among slots that are counted from a place: where it is, and what it is once one slot changes.
use Rattle.std.proofs.Common.{◌≡◌, ◌≢◌, ℕ, zero, suc, ◌+◌, ◌<◌, ◌≤◌, min, Bool, true, false, cond, eqb, List, [], ◌∷◌, ◌++◌, length, drop, replicate, Option, Some, None, refl, sym, ap, ◌∙◌, arith}
use Rattle.std.specs.List.{slice_get, slice_set}
use Rattle.std.proofs.lemmas.Bool.{eq-eqb, eqb-true, ne_eqb}
use Rattle.std.proofs.lemmas.Option.{none-some, same_Some}
use Rattle.farm_types.specs.declared.attempt.ProcRow.{ProcRow}
use Rattle.farm_types.specs.declared.limits.TheConstants.{SLOT_LIMIT}
use Rattle.farm_types.specs.Farm.{for_some}
use Rattle.attempt_book.specs.Book.{first_in}
use Rattle.attempt_book.specs.Way.{mark_of, slot_of}

-- a slot has an attempt on the host
abbrev pub is_on : ℕ → Option ProcRow → Bool
is_on host o = for_some o (λ (p : ProcRow). eqb p.host host)

module _ (host : ℕ) where
  abbrev pub mark_in : ℕ → List (Option ProcRow) → ℕ
  mark_in place os = mark_of (first_in host place os)

  -- ---- where it is

  low_by : (b : Bool) (place : ℕ) (o : Option ℕ) → place + 1 ≤ mark_of o → place ≤ mark_of (cond b (Some place) o)
  low_by true place o rest = omega arith
  low_by false place o rest = omega arith

  -- at the place they are counted from, or after it
  pub mark_low : (place : ℕ) (os : List (Option ProcRow)) → place + length os ≤ SLOT_LIMIT → place ≤ mark_in place os
  mark_low place [] within = omega arith
  mark_low place (o ∷ os) within = low_by (is_on host o) place (first_in host (place + 1) os) (mark_low (place + 1) os (omega arith))

  high_by : (b : Bool) (place i : ℕ) (o : Option ℕ) → mark_of o ≤ place + 1 + i → mark_of (cond b (Some place) o) ≤ place + suc i
  high_by true place i o rest = omega arith
  high_by false place i o rest = omega arith

  -- at no slot after one with an attempt on the host
  pub mark_high : (place i : ℕ) (os : List (Option ProcRow)) (p : ProcRow) → slice_get os i ≡ Some (Some p) → p.host ≡ host → mark_in place os ≤ place + i
  mark_high place i [] p at on = absurd (none-some (Some p) at)
  mark_high place zero (o ∷ os) p at on =
      let is : is_on host o ≡ true = ap (is_on host) (same_Some o (Some p) at) ∙ eq-eqb p.host host on in
      let here : mark_in place (o ∷ os) ≡ place = ap (λ b. mark_of (cond b (Some place) (first_in host (place + 1) os))) is in
      omega (arith, here)
  mark_high place (suc i) (o ∷ os) p at on = high_by (is_on host o) place i (first_in host (place + 1) os) (mark_high (place + 1) i os p at on)

  live_here : (b : Bool) (place : ℕ) (p : ProcRow) (o : Option ℕ) → eqb p.host host ≡ b → place + 1 ≤ mark_of o → mark_of (cond b (Some place) o) ≡ place + 0 → p.host ≡ host
  live_here true place p o is low here = eqb-true p.host host is
  live_here false place p o is low here = absurd (omega arith)

  live_later : (b : Bool) (place i : ℕ) (o : Option ℕ) (C : Type 0) → mark_of (cond b (Some place) o) ≡ place + suc i → (mark_of o ≡ place + 1 + i → C) → C
  live_later true place i o C here later = absurd (omega arith)
  live_later false place i o C here later = later (omega arith)

  -- at a slot with an attempt on the host
  pub mark_live : (place i : ℕ) (os : List (Option ProcRow)) → place + length os ≤ SLOT_LIMIT → place + i < SLOT_LIMIT → mark_in place os ≡ place + i → (p : ProcRow) × (slice_get os i ≡ Some (Some p)) × (p.host ≡ host)
  mark_live place i [] within below here = absurd (omega arith)
  mark_live place zero (None ∷ os) within below here =
      let low : place + 1 ≤ mark_in (place + 1) os = mark_low (place + 1) os (omega arith) in
      let same : mark_in (place + 1) os ≡ place + 0 = here in
      absurd (omega arith)
  mark_live place zero (Some p ∷ os) within below here =
      let low : place + 1 ≤ mark_in (place + 1) os = mark_low (place + 1) os (omega arith) in
      (p, refl, live_here (eqb p.host host) place p (first_in host (place + 1) os) refl low here)
  mark_live place (suc i) (o ∷ os) within below here =
      live_later (is_on host o) place i (first_in host (place + 1) os) ((p : ProcRow) × (slice_get os i ≡ Some (Some p)) × (p.host ≡ host)) here
      (λ here. mark_live (place + 1) i os (omega arith) (omega arith) here)

  slot_by : (b : Bool) (place : ℕ) (o : Option ℕ) → place < SLOT_LIMIT → slot_of (mark_of o) ≡ o → slot_of (mark_of (cond b (Some place) o)) ≡ cond b (Some place) o
  slot_by true place o below rest = ap (λ b. cond b None (Some place)) (ne_eqb place SLOT_LIMIT (λ e. absurd (omega arith)))
  slot_by false place o below rest = rest

  -- its mark tells it
  pub slot_of-mark : (place : ℕ) (os : List (Option ProcRow)) → place + length os ≤ SLOT_LIMIT → slot_of (mark_in place os) ≡ first_in host place os
  slot_of-mark place [] within = refl
  slot_of-mark place (o ∷ os) within = slot_by (is_on host o) place (first_in host (place + 1) os) (omega arith) (slot_of-mark (place + 1) os (omega arith))

  -- none where no attempt is on the host
  pub first_in-none : (place : ℕ) (os : List (Option ProcRow)) → ((i : ℕ) (p : ProcRow) → slice_get os i ≡ Some (Some p) → p.host ≢ host) → first_in host place os ≡ None
  first_in-none place [] apart = refl
  first_in-none place (None ∷ os) apart = first_in-none (place + 1) os (λ i p at. apart (suc i) p at)
  first_in-none place (Some p ∷ os) apart =
      ap (λ b. cond b (Some place) (first_in host (place + 1) os)) (ne_eqb p.host host (apart 0 p refl)) ∙ first_in-none (place + 1) os (λ i q at. apart (suc i) q at)

  skip_by : (b : Bool) (place i : ℕ) (x o : Option ℕ) → place + suc i ≤ mark_of (cond b (Some place) o) → (place + 1 + i ≤ mark_of o → x ≡ o) → x ≡ cond b (Some place) o
  skip_by true place i x o near later = absurd (omega arith)
  skip_by false place i x o near later = later (omega arith)

  -- the same from behind a slot without an attempt, where it is none of the slots before
  pub first_in-behind : (place i after : ℕ) (os : List (Option ProcRow)) → after ≡ place + i + 1 → slice_get os i ≡ Some None → place + i ≤ mark_in place os → first_in host after (drop (suc i) os) ≡ first_in host place os
  first_in-behind place i after [] is free near = absurd (none-some None free)
  first_in-behind place zero after (o ∷ os) is free near =
      let off : is_on host o ≡ false = ap (is_on host) (same_Some o None free) in
      let next : after ≡ place + 1 = omega arith in
      ap (λ n. first_in host n os) next ∙ sym (ap (λ b. cond b (Some place) (first_in host (place + 1) os)) off)
  first_in-behind place (suc i) after (o ∷ os) is free near =
      skip_by (is_on host o) place i (first_in host after (drop (suc i) os)) (first_in host (place + 1) os) near (λ near. first_in-behind (place + 1) i after os (omega arith) free near)

  -- ---- one slot changes

  put_by : (b : Bool) (place i : ℕ) (x o : Option ℕ) → mark_of x ≡ min (mark_of o) (place + 1 + i) → mark_of (cond b (Some place) x) ≡ min (mark_of (cond b (Some place) o)) (place + suc i)
  put_by true place i x o rest = omega arith
  put_by false place i x o rest = omega arith

  -- with an attempt on the host it is that slot, or one before it
  pub mark_in-put : (place i : ℕ) (os : List (Option ProcRow)) (new : Option ProcRow) → is_on host new ≡ true → i < length os → place + length os ≤ SLOT_LIMIT → mark_in place (slice_set os i new) ≡ min (mark_in place os) (place + i)
  mark_in-put place i [] new on there within = absurd (omega arith)
  mark_in-put place zero (o ∷ os) new on there within =
      let here : mark_in place (new ∷ os) ≡ place = ap (λ b. mark_of (cond b (Some place) (first_in host (place + 1) os))) on in
      let low : place ≤ mark_in place (o ∷ os) = mark_low place (o ∷ os) within in
      let least : place ≡ min (mark_in place (o ∷ os)) (place + 0) = omega arith in
      here ∙ least
  mark_in-put place (suc i) (o ∷ os) new on there within =
      put_by (is_on host o) place i (first_in host (place + 1) (slice_set os i new)) (first_in host (place + 1) os) (mark_in-put (place + 1) i os new on (omega arith) (omega arith))

  cut_by : (b : Bool) (place i : ℕ) (o x y : Option ℕ) → mark_of (cond b (Some place) o) ≡ place + suc i → (mark_of o ≡ place + 1 + i → x ≡ y) → cond b (Some place) x ≡ y
  cut_by true place i o x y here later = absurd (omega arith)
  cut_by false place i o x y here later = later (omega arith)

  -- without one it is the next one, where it was that slot
  pub first_in-cut : (place i after : ℕ) (os : List (Option ProcRow)) (new : Option ProcRow) → is_on host new ≡ false → after ≡ place + i + 1 → mark_in place os ≡ place + i → first_in host place (slice_set os i new) ≡ first_in host after (drop (suc i) os)
  first_in-cut place i after [] new off is here = refl
  first_in-cut place zero after (o ∷ os) new off is here =
      let next : place + 1 ≡ after = omega arith in
      ap (λ b. cond b (Some place) (first_in host (place + 1) os)) off ∙ ap (λ n. first_in host n os) next
  first_in-cut place (suc i) after (o ∷ os) new off is here =
      cut_by (is_on host o) place i (first_in host (place + 1) os) (first_in host (place + 1) (slice_set os i new)) (first_in host after (drop (suc i) os)) here
      (λ here. first_in-cut (place + 1) i after os new off (omega arith) here)

  kept_here : (b : Bool) (place : ℕ) (o : Option ℕ) → mark_of (cond b (Some place) o) ≢ place + 0 → o ≡ cond b (Some place) o
  kept_here true place o apart = absurd (apart (omega arith))
  kept_here false place o apart = refl

  kept_by : (b : Bool) (place i : ℕ) (x o : Option ℕ) → mark_of (cond b (Some place) o) ≢ place + suc i → (mark_of o ≢ place + 1 + i → x ≡ o) → cond b (Some place) x ≡ cond b (Some place) o
  kept_by true place i x o apart later = refl
  kept_by false place i x o apart later = later (λ e. apart (omega arith))

  -- and where it was another slot, it stays
  pub first_in-kept : (place i : ℕ) (os : List (Option ProcRow)) (new : Option ProcRow) → is_on host new ≡ false → mark_in place os ≢ place + i → first_in host place (slice_set os i new) ≡ first_in host place os
  first_in-kept place i [] new off apart = refl
  first_in-kept place zero (o ∷ os) new off apart =
      ap (λ b. cond b (Some place) (first_in host (place + 1) os)) off ∙ kept_here (is_on host o) place (first_in host (place + 1) os) apart
  first_in-kept place (suc i) (o ∷ os) new off apart =
      kept_by (is_on host o) place i (first_in host (place + 1) (slice_set os i new)) (first_in host (place + 1) os) apart (λ apart. first_in-kept (place + 1) i os new off apart)

  -- a slot that has an attempt on another host, before and after, changes nothing
  pub first_in-other : (place i : ℕ) (os : List (Option ProcRow)) (old new : Option ProcRow) → slice_get os i ≡ Some old → is_on host old ≡ false → is_on host new ≡ false → first_in host place (slice_set os i new) ≡ first_in host place os
  first_in-other place i [] old new at off off_new = refl
  first_in-other place zero (o ∷ os) old new at off off_new =
      let was : is_on host o ≡ false = ap (is_on host) (same_Some o old at) ∙ off in
      ap (λ b. cond b (Some place) (first_in host (place + 1) os)) (off_new ∙ sym was)
  first_in-other place (suc i) (o ∷ os) old new at off off_new = ap (λ x. cond (is_on host o) (Some place) x) (first_in-other (place + 1) i os old new at off off_new)

  -- ---- slots more

  none_in : (place from count : ℕ) → first_in host place (drop from (replicate count None)) ≡ None
  none_in place zero zero = refl
  none_in place (suc from) zero = refl
  none_in place zero (suc count) = none_in (place + 1) zero count
  none_in place (suc from) (suc count) = none_in place from count

  pub first_in-more : (place from count : ℕ) (os : List (Option ProcRow)) → first_in host place (drop from (os ++ replicate count None)) ≡ first_in host place (drop from os)
  first_in-more place from count [] = none_in place from count ∙ sym (none_in place from 0)
  first_in-more place zero count (o ∷ os) = ap (λ x. cond (is_on host o) (Some place) x) (first_in-more (place + 1) zero count os)
  first_in-more place (suc from) count (o ∷ os) = first_in-more place from count os
