-- The way along a host's own attempts stays that of the attempts when one begins, when one ends, and when slots are added.
use Rattle.std.proofs.Common.{◌≡◌, ◌≢◌, ℕ, zero, suc, ◌+◌, ◌-◌, ◌<◌, ◌≤◌, min, Bool, true, false, cond, eqb, get_or, List, [], ◌∷◌, ◌++◌, length, replicate, Option, Some, None, refl, sym, ap, subst, ◌∙◌, inl, inr, arith}
use Rattle.std.specs.List.{slice_get, slice_set}
use Rattle.std.specs.Prelude.{option_and_then}
use Rattle.std.proofs.Math.ListN.{length-set}
use Rattle.std.proofs.Math.Nat.{eq-zero-or-pos}
use Rattle.std.proofs.lemmas.Bool.{cases_lt, eq-eqb, ne_eqb}
use Rattle.std.proofs.lemmas.List.{length-replicate}
use Rattle.std.proofs.lemmas.Option.{none-some, same_Some, slice_get_past, slice_get_read, slice_get_within}
use Rattle.farm_types.specs.declared.attempt.ProcRow.{ProcRow}
use Rattle.farm_types.specs.declared.limits.TheConstants.{MOST_HOSTS, SLOT_LIMIT}
use Rattle.farm_types.specs.Sums.{total_at, total_in}
use Rattle.farm_types.proofs.Changed.{places, slice_get-set_other, slice_get-set_same}
use Rattle.farm_types.proofs.Lists.{slice_get_below}
use Rattle.attempt_book.specs.Book.{first_on, flat, next_on}
use Rattle.attempt_book.specs.Inside.{KeepsWays}
use Rattle.attempt_book.specs.Way.{IsJoin, first_to, mark_of, mark_on, next_to, slot_in, slot_of, way_at}
use Rattle.attempt_book.proofs.Firsts.{first_in-more, first_in-none, is_on}
use Rattle.attempt_book.proofs.Marks.{first_on-above, first_on-behind, first_on-cut, first_on-kept, first_on-other, mark_on-high, mark_on-live, mark_on-put, slot_of-mark_on}

-- ---- live attempts

none_live : (added i : ℕ) (q : ProcRow) → slice_get (replicate added None) i ≡ Some (Some q) → ⊥
none_live zero i q at = none-some (Some q) at
none_live (suc added) zero q at = none-some q (same_Some None (Some q) at)
none_live (suc added) (suc i) q at = none_live added i q at

-- no slot that is added has an attempt
pub live_before : (added : ℕ) (procs : List (Option ProcRow)) (i : ℕ) (q : ProcRow) → slice_get (procs ++ replicate added None) i ≡ Some (Some q) → slice_get procs i ≡ Some (Some q)
live_before added [] i q at = absurd (none_live added i q at)
live_before added (o ∷ os) zero q at = at
live_before added (o ∷ os) (suc i) q at = live_before added os i q at

-- ---- marks that are set

total_at-set_same : (marks : List ℕ) (i mark : ℕ) → i < length marks → total_at (slice_set marks i mark) i ≡ mark
total_at-set_same marks i mark within =
    let x = slice_get_below marks i within in
    ap total_in (slice_get-set_same marks i x.0 mark x.1)

total_at-set_other : (marks : List ℕ) (i k mark : ℕ) → k ≢ i → total_at (slice_set marks i mark) k ≡ total_at marks k
total_at-set_other marks i k mark apart = ap total_in (slice_get-set_other marks i k mark apart)

is_start : (from : ℕ) → from ≡ 0 → eqb from 0 ≡ true
is_start from e = eq-eqb from 0 e

is_later : (from : ℕ) → 0 < from → eqb from 0 ≡ false
is_later from later = ne_eqb from 0 (λ e. absurd (omega arith))

first_to-start : (first : List ℕ) (host from mark : ℕ) → from ≡ 0 → host < length first → total_at (first_to first host from mark) host ≡ mark
first_to-start first host from mark start within =
    ap (λ b. total_at (cond b (slice_set first host mark) first) host) (is_start from start) ∙ total_at-set_same first host mark within

first_to-later : (first : List ℕ) (host from mark : ℕ) → 0 < from → first_to first host from mark ≡ first
first_to-later first host from mark later = ap (λ b. cond b (slice_set first host mark) first) (is_later from later)

other_by : (b : Bool) (first : List ℕ) (host n mark : ℕ) → n ≢ host → total_at (cond b (slice_set first host mark) first) n ≡ total_at first n
other_by true first host n mark apart = total_at-set_other first host n mark apart
other_by false first host n mark apart = refl

length_by : (b : Bool) (xs ys : List ℕ) → length xs ≡ length ys → length (cond b xs ys) ≡ length ys
length_by true xs ys same = same
length_by false xs ys same = refl

length-first_to : (first : List ℕ) (host from mark : ℕ) → length (first_to first host from mark) ≡ length first
length-first_to first host from mark = length_by (eqb from 0) (slice_set first host mark) first (length-set first host mark)

length-next_to : (next : List ℕ) (from mark : ℕ) → length (next_to next from mark) ≡ length next
length-next_to next from mark = length_by (eqb from 0) next (slice_set next (from - 1) mark) (sym (length-set next (from - 1) mark)) ∙ length-set next (from - 1) mark

next_to-same : (next : List ℕ) (from i mark : ℕ) → i + 1 ≡ from → i < length next → total_at (next_to next from mark) i ≡ mark
next_to-same next from i mark is within =
    let before : from - 1 ≡ i = omega arith in
    ap (λ b. total_at (cond b next (slice_set next (from - 1) mark)) i) (is_later from (omega arith))
    ∙ (ap (λ k. total_at (slice_set next k mark) i) before ∙ total_at-set_same next i mark within)

next_to-other : (next : List ℕ) (from i mark : ℕ) → i + 1 ≢ from → total_at (next_to next from mark) i ≡ total_at next i
next_to-other next from i mark apart =
    elim (eq-zero-or-pos from) as (λ c. total_at (next_to next from mark) i ≡ total_at next i) [
      | inl start ↦ ap (λ b. total_at (cond b next (slice_set next (from - 1) mark)) i) (is_start from start)
      | inr later ↦
          ap (λ b. total_at (cond b next (slice_set next (from - 1) mark)) i) (is_later from later) ∙ total_at-set_other next (from - 1) i mark (λ e. apart (omega arith))
    ]

-- ---- what is read of the way

module _ (procs : List (Option ProcRow)) (first next : List ℕ) (kept : KeepsWays procs first next) (count : length procs ≤ SLOT_LIMIT) where
  -- at each host stands its first attempt, and past the last host none
  pub first-slot : (host : ℕ) → ((i : ℕ) (p : ProcRow) → slice_get procs i ≡ Some (Some p) → p.host < MOST_HOSTS) → slot_in (slice_get first host) ≡ first_on procs host 0
  first-slot host known =
      elim (cases_lt host MOST_HOSTS) as (λ c. slot_in (slice_get first host) ≡ first_on procs host 0) [
        | inl below ↦
            let x = slice_get_below first host (omega (arith, kept.first_counted)) in
            ap slot_in x.1 ∙ ap slot_of (sym (ap total_in x.1) ∙ kept.first_kept host below) ∙ slot_of-mark_on procs host count 0 (omega arith)
        | inr past ↦
            ap slot_in (slice_get_past first host (omega (arith, kept.first_counted)))
            ∙ sym (first_in-none host 0 procs (λ i p at e. absurd (omega (arith, known i p at))))
      ]

  -- at each live attempt stands the next one on its host
  pub next-slot : (i : ℕ) (p : ProcRow) → slice_get procs i ≡ Some (Some p) → slot_in (slice_get next i) ≡ next_on procs i
  next-slot i p at =
      let here : i < length procs = slice_get_within procs i (Some p) at in
      let x = slice_get_below next i (omega (arith, kept.next_counted)) in
      ap slot_in x.1 ∙ ap slot_of (sym (ap total_in x.1) ∙ kept.next_kept i p at) ∙ slot_of-mark_on procs p.host count (i + 1) (omega arith)
      ∙ sym (ap (λ (o : Option (Option ProcRow)). option_and_then (λ (q : ProcRow). first_on procs q.host (i + 1)) (flat o)) at)

  -- where the way goes from a join
  pub way_at-mark : (host slot from : ℕ) → host < MOST_HOSTS → IsJoin procs host slot from → way_at first next host from ≡ mark_on procs host from
  way_at-mark host slot from within join =
      elim (eq-zero-or-pos from) as (λ c. way_at first next host from ≡ mark_on procs host from) [
        | inl start ↦
            ap (λ b. cond b (total_at first host) (total_at next (from - 1))) (is_start from start) ∙ (kept.first_kept host within ∙ ap (mark_on procs host) (sym start))
        | inr later ↦
            let p = join.behind later in
            let before : from - 1 + 1 ≡ from = omega arith in
            ap (λ b. cond b (total_at first host) (total_at next (from - 1))) (is_later from later)
            ∙ (kept.next_kept (from - 1) p.0 p.1 ∙ (ap (λ h. mark_on procs h (from - 1 + 1)) p.2 ∙ ap (mark_on procs host) before))
      ]

  -- a step along the way: what stands at a mark before the end, and where it goes on
  pub mark-step : (host from at : ℕ) → from ≤ SLOT_LIMIT → at < SLOT_LIMIT → at ≡ mark_on procs host from → (p : ProcRow) × (slice_get procs at ≡ Some (Some p)) × (p.host ≡ host)
  mark-step host from at within below is =
      let p = mark_on-live procs host count from within (omega (arith, is)) in
      (p.0, ap (slice_get procs) is ∙ p.1, p.2)

  pub mark-next : (host at after : ℕ) (p : ProcRow) → slice_get procs at ≡ Some (Some p) → p.host ≡ host → after ≡ get_or next at after → after ≡ mark_on procs host (at + 1)
  mark-next host at after p live on read =
      let here : at < length procs = slice_get_within procs at (Some p) live in
      let stands : slice_get next at ≡ Some after = slice_get_read next SLOT_LIMIT at after (sym kept.next_counted) (omega (arith, here)) read in
      sym (ap total_in stands) ∙ (kept.next_kept at p live ∙ ap (λ h. mark_on procs h (at + 1)) on)

  -- ---- the way goes on from a join to another mark

  module _ (new : List (Option ProcRow)) (host slot from mark : ℕ) (within : host < MOST_HOSTS) (join : IsJoin procs host slot from)
      (other : (n s : ℕ) → n ≢ host → mark_on new n s ≡ mark_on procs n s)
      (above : (s : ℕ) → slot < s → mark_on new host s ≡ mark_on procs host s)
      (early : (s : ℕ) → s ≤ slot → mark_on procs host s < slot → mark_on new host s ≡ mark_on procs host s)
      (to : mark_on new host from ≡ mark)
    where
      here_first : total_at (first_to first host from mark) host ≡ mark_on new host 0
      here_first =
          elim (eq-zero-or-pos from) as (λ c. total_at (first_to first host from mark) host ≡ mark_on new host 0) [
            | inl start ↦ first_to-start first host from mark start (omega (arith, kept.first_counted)) ∙ (sym to ∙ ap (mark_on new host) start)
            | inr later ↦
                let p = join.behind later in
                let high : mark_on procs host 0 ≤ from - 1 = mark_on-high procs host count 0 (from - 1) p.0 p.1 p.2 (omega arith) in
                let before : from ≤ slot = join.within in
                ap (λ marks. total_at marks host) (first_to-later first host from mark later) ∙ (kept.first_kept host within ∙ sym (early 0 (omega arith) (omega arith)))
          ]

      pub linked_first : (n : ℕ) → n < MOST_HOSTS → total_at (first_to first host from mark) n ≡ mark_on new n 0
      linked_first n below =
          elim (places n host) as (λ c. total_at (first_to first host from mark) n ≡ mark_on new n 0) [
            | inl here ↦ subst (λ (k : ℕ). total_at (first_to first host from mark) k ≡ mark_on new k 0) (sym here) here_first
            | inr apart ↦ other_by (eqb from 0) first host n mark apart ∙ (kept.first_kept n below ∙ sym (other n 0 apart))
          ]

      -- an attempt on the host that isn't the one right before the join has its next one where it was
      module _ (i : ℕ) (q : ProcRow) (at : slice_get procs i ≡ Some (Some q)) (apart : i + 1 ≢ from) where
        before_slot : q.host ≡ host → i < slot → mark_on procs host (i + 1) < slot
        before_slot on below =
            elim (cases_lt i from) as (λ c. mark_on procs host (i + 1) < slot) [
              | inl lower ↦
                  let later : 0 < from = omega arith in
                  let p = join.behind later in
                  let ahead : i + 1 < from = omega (arith, apart) in
                  let high : mark_on procs host (i + 1) ≤ from - 1 = mark_on-high procs host count (i + 1) (from - 1) p.0 p.1 p.2 (omega arith) in
                  let before : from ≤ slot = join.within in
                  omega arith
              | inr higher ↦
                  let high : mark_on procs host from ≤ i = mark_on-high procs host count from i q at on higher in
                  let near : slot ≤ mark_on procs host from = join.nearest in
                  absurd (omega arith)
            ]

        stays : q.host ≡ host → mark_on new host (i + 1) ≡ mark_on procs host (i + 1)
        stays on =
            elim (cases_lt i slot) as (λ c. mark_on new host (i + 1) ≡ mark_on procs host (i + 1)) [
              | inl below ↦ early (i + 1) (omega arith) (before_slot on below)
              | inr past ↦ above (i + 1) (omega arith)
            ]

      same_host : (i : ℕ) (q : ProcRow) → slice_get procs i ≡ Some (Some q) → i + 1 ≡ from → q.host ≡ host
      same_host i q at is =
          let p = join.behind (omega arith) in
          let before : from - 1 ≡ i = omega arith in
          let there : slice_get procs i ≡ Some (Some p.0) = ap (slice_get procs) (sym before) ∙ p.1 in
          let one : q ≡ p.0 = same_Some q p.0 (same_Some (Some q) (Some p.0) (sym at ∙ there)) in
          ap (λ (x : ProcRow). x.host) one ∙ p.2

      other_or_stays : (i : ℕ) (q : ProcRow) → slice_get procs i ≡ Some (Some q) → i + 1 ≢ from → mark_on new q.host (i + 1) ≡ mark_on procs q.host (i + 1)
      other_or_stays i q at apart =
          elim (places q.host host) as (λ c. mark_on new q.host (i + 1) ≡ mark_on procs q.host (i + 1)) [
            | inl on ↦ ap (λ h. mark_on new h (i + 1)) on ∙ (stays i q at apart on ∙ ap (λ h. mark_on procs h (i + 1)) (sym on))
            | inr off ↦ other q.host (i + 1) off
          ]

      pub linked_next : (base : List ℕ) → ((i : ℕ) → i ≢ slot → total_at base i ≡ total_at next i) → length base ≡ length next
          → (i : ℕ) (q : ProcRow) → i ≢ slot → slice_get procs i ≡ Some (Some q) → total_at (next_to base from mark) i ≡ mark_on new q.host (i + 1)
      linked_next base elsewhere counted i q away at =
          elim (places (i + 1) from) as (λ c. total_at (next_to base from mark) i ≡ mark_on new q.host (i + 1)) [
            | inl is ↦
                let here : i < length procs = slice_get_within procs i (Some q) at in
                next_to-same base from i mark is (omega (arith, counted, kept.next_counted))
                ∙ (sym to ∙ (ap (mark_on new host) (sym is) ∙ ap (λ h. mark_on new h (i + 1)) (sym (same_host i q at is))))
            | inr apart ↦ next_to-other base from i mark apart ∙ (elsewhere i away ∙ (kept.next_kept i q at ∙ sym (other_or_stays i q at apart)))
          ]

  -- ---- an attempt begins, and one ends

  module _ (slot from : ℕ) (p : ProcRow) (within : p.host < MOST_HOSTS) (join : IsJoin procs p.host slot from) where
    below : from ≤ slot
    below = join.within

    off : (n : ℕ) → n ≢ p.host → is_on n (Some p) ≡ false
    off n apart = ne_eqb p.host n (λ e. apart (sym e))

    module _ (free : slice_get procs slot ≡ Some None) where
      abbrev with_attempt : List (Option ProcRow)
      with_attempt = slice_set procs slot (Some p)

      there : slot < length procs
      there = slice_get_within procs slot None free

      put : (s : ℕ) → s ≤ slot → mark_on with_attempt p.host s ≡ min (mark_on procs p.host s) slot
      put s low = mark_on-put procs p.host count slot (Some p) s low there (eq-eqb p.host p.host refl)

      begun_other : (n s : ℕ) → n ≢ p.host → mark_on with_attempt n s ≡ mark_on procs n s
      begun_other n s apart = ap mark_of (first_on-other procs n count slot (Some p) None s free refl (off n apart))

      begun_above : (s : ℕ) → slot < s → mark_on with_attempt p.host s ≡ mark_on procs p.host s
      begun_above s above = ap mark_of (first_on-above procs p.host count slot (Some p) s above)

      begun_early : (s : ℕ) → s ≤ slot → mark_on procs p.host s < slot → mark_on with_attempt p.host s ≡ mark_on procs p.host s
      begun_early s low early = put s low ∙ (omega arith)

      begun_to : mark_on with_attempt p.host from ≡ slot
      begun_to =
          let near : slot ≤ mark_on procs p.host from = join.nearest in
          put from below ∙ (omega arith)

      abbrev base : List ℕ
      base = slice_set next slot (way_at first next p.host from)

      begun_next : (i : ℕ) (q : ProcRow) → slice_get with_attempt i ≡ Some (Some q) → total_at (next_to base from slot) i ≡ mark_on with_attempt q.host (i + 1)
      begun_next i q at =
          elim (places i slot) as (λ c. total_at (next_to base from slot) i ≡ mark_on with_attempt q.host (i + 1)) [
            | inl here ↦
                let same : Some p ≡ Some q = same_Some (Some p) (Some q) (sym (slice_get-set_same procs slot None (Some p) free) ∙ ap (slice_get with_attempt) (sym here) ∙ at) in
                let one : p ≡ q = same_Some p q same in
                let stands : total_at (next_to base from slot) slot ≡ way_at first next p.host from =
                next_to-other base from slot slot (λ e. absurd (omega (arith, below))) ∙ total_at-set_same next slot (way_at first next p.host from) (omega (arith, there, kept.next_counted)) in
                let behind : mark_on with_attempt p.host (slot + 1) ≡ mark_on procs p.host from =
                begun_above (slot + 1) (omega arith) ∙ ap mark_of (first_on-behind procs p.host count from slot below free join.nearest) in
                ap (total_at (next_to base from slot)) here
                ∙ (stands ∙ (way_at-mark p.host slot from within join ∙ (sym behind ∙ (ap (λ k. mark_on with_attempt p.host (k + 1)) (sym here) ∙ ap (λ (x : ProcRow). mark_on with_attempt x.host (i + 1)) one))))
            | inr away ↦
                linked_next with_attempt p.host slot from slot within join begun_other begun_above begun_early begun_to base
                (λ k apart. total_at-set_other next slot k (way_at first next p.host from) apart) (length-set next slot (way_at first next p.host from)) i q away
                (sym (slice_get-set_other procs slot i (Some p) away) ∙ at)
          ]

      pub begun_ways : KeepsWays (slice_set procs slot (Some p)) (first_to first p.host from slot) (next_to (slice_set next slot (way_at first next p.host from)) from slot)
      begun_ways =
          record {
            first_kept = linked_first with_attempt p.host slot from slot within join begun_other begun_above begun_early begun_to;
            next_kept = begun_next;
            first_counted = length-first_to first p.host from slot ∙ kept.first_counted;
            next_counted = length-next_to base from slot ∙ (length-set next slot (way_at first next p.host from) ∙ kept.next_counted);
          }

    module _ (live : slice_get procs slot ≡ Some (Some p)) where
      abbrev without : List (Option ProcRow)
      without = slice_set procs slot None

      ended_other : (n s : ℕ) → n ≢ p.host → mark_on without n s ≡ mark_on procs n s
      ended_other n s apart = ap mark_of (first_on-other procs n count slot None (Some p) s live (off n apart) refl)

      ended_above : (s : ℕ) → slot < s → mark_on without p.host s ≡ mark_on procs p.host s
      ended_above s above = ap mark_of (first_on-above procs p.host count slot None s above)

      ended_early : (s : ℕ) → s ≤ slot → mark_on procs p.host s < slot → mark_on without p.host s ≡ mark_on procs p.host s
      ended_early s low early = ap mark_of (first_on-kept procs p.host count slot None s low refl (λ e. absurd (omega arith)))

      ended_to : mark_on without p.host from ≡ total_at next slot
      ended_to =
          let near : slot ≤ mark_on procs p.host from = join.nearest in
          let high : mark_on procs p.host from ≤ slot = mark_on-high procs p.host count from slot p live refl below in
          ap mark_of (first_on-cut procs p.host count slot None from below refl (omega arith)) ∙ sym (kept.next_kept slot p live)

      ended_next : (i : ℕ) (q : ProcRow) → slice_get without i ≡ Some (Some q) → total_at (next_to next from (total_at next slot)) i ≡ mark_on without q.host (i + 1)
      ended_next i q at =
          elim (places i slot) as (λ c. total_at (next_to next from (total_at next slot)) i ≡ mark_on without q.host (i + 1)) [
            | inl here ↦ absurd (none-some q (same_Some None (Some q) (sym (slice_get-set_same procs slot (Some p) None live) ∙ ap (slice_get without) (sym here) ∙ at)))
            | inr away ↦
                linked_next without p.host slot from (total_at next slot) within join ended_other ended_above ended_early ended_to next (λ k apart. refl) refl i q away
                (sym (slice_get-set_other procs slot i None away) ∙ at)
          ]

      pub ended_ways : KeepsWays (slice_set procs slot None) (first_to first p.host from (total_at next slot)) (next_to next from (total_at next slot))
      ended_ways =
          record {
            first_kept = linked_first without p.host slot from (total_at next slot) within join ended_other ended_above ended_early ended_to;
            next_kept = ended_next;
            first_counted = length-first_to first p.host from (total_at next slot) ∙ kept.first_counted;
            next_counted = length-next_to next from (total_at next slot) ∙ kept.next_counted;
          }

  -- ---- slots are added

  more_marks : (n from added : ℕ) → mark_on (procs ++ replicate added None) n from ≡ mark_on procs n from
  more_marks n from added = ap mark_of (first_in-more n from from added procs)

  pub grown_ways : (added : ℕ) → KeepsWays (procs ++ replicate added None) first next
  grown_ways added =
      record {
        first_kept = λ n below. kept.first_kept n below ∙ sym (more_marks n 0 added);
        next_kept = λ i q at. kept.next_kept i q (live_before added procs i q at) ∙ sym (more_marks q.host (i + 1) added);
        first_counted = kept.first_counted;
        next_counted = kept.next_counted;
      }

-- ---- no slots

total_at-replicate : (count mark n : ℕ) → n < count → total_at (replicate count mark) n ≡ mark
total_at-replicate zero mark n below = absurd (omega arith)
total_at-replicate (suc count) mark zero below = refl
total_at-replicate (suc count) mark (suc n) below = total_at-replicate count mark n (omega arith)

pub made_ways : (procs : List (Option ProcRow)) (first next : List ℕ) → procs ≡ [] → first ≡ replicate MOST_HOSTS SLOT_LIMIT → next ≡ replicate SLOT_LIMIT SLOT_LIMIT → KeepsWays procs first next
made_ways procs first next none first_is next_is =
    let no_slots : (n : ℕ) → SLOT_LIMIT ≡ mark_on procs n 0 = λ n. sym (ap (λ (ps : List (Option ProcRow)). mark_on ps n 0) none) in
    record {
      first_kept = λ n below. ap (λ marks. total_at marks n) first_is ∙ (total_at-replicate MOST_HOSTS SLOT_LIMIT n below ∙ no_slots n);
      next_kept = λ i q at. absurd (none-some (Some q) (sym (ap (λ (ps : List (Option ProcRow)). slice_get ps i) none) ∙ at));
      first_counted = ap length first_is ∙ length-replicate {A = ℕ} MOST_HOSTS SLOT_LIMIT;
      next_counted = ap length next_is ∙ length-replicate {A = ℕ} SLOT_LIMIT SLOT_LIMIT;
    }
