-- The frames of a new job: each position of each layer has one, and each has its number.
use Rattle.std.proofs.Common.{◌≡◌, ℕ, suc, zero, ◌+◌, ◌<◌, ◌≤◌, Bool, true, false, cond, ◌&&◌, eqb, List, [], ◌∷◌, ◌++◌, length, Option, Some, None, ℤ, refl, sym, ap, subst, ◌∙◌, arith, append_assoc, length-append, ◌⊎◌, inl, inr}
use Rattle.std.specs.List.{All, find, list_all, slice_get, sum_by}
use Rattle.std.specs.Ordering.{int_eq}
use Rattle.std.specs.Cmp.Derive.{both_true}
use Rattle.std.proofs.lemmas.Bool.{eq-eqb, ne_eqb, eqb-true, eqb-false, false_from_ne_true, cases_lt, and_right}
use Rattle.std.proofs.lemmas.Bool.Decides.{Decides-int_eq}
use Rattle.std.proofs.lemmas.List.Folds.{list_all-append}
use Rattle.std.proofs.lemmas.List.Sums.{sum_by-cons, sum_by-append}
use Rattle.std.proofs.lemmas.Option.{none-some, same_Some}
use Rattle.farm_types.specs.declared.job.LayerSpec.{LayerSpec}
use Rattle.farm_types.specs.declared.rows.LayerRow.{LayerRow}
use Rattle.farm_types.specs.declared.slot_row.Frame.{Frame}
use Rattle.farm_types.specs.Farm.{for_some, is_placed, layer_in}
use Rattle.farm_types.specs.Formed.{IsFormedLayer}
use Rattle.farm_types.specs.Jobs.{frames_from, frames_in, frames_of, layer_row, layer_rows, limit_in, new_frame}
use Rattle.farm_types.specs.Kept.{is_kept_frame}
use Rattle.farm_types.specs.Ranges.{range_numbers}
use Rattle.farm_types.proofs.Passes.{for_some-there}
use Rattle.farm_law.proofs.KeptJobsCounts.{stands_at, at_stands}
use Rattle.farm_law.proofs.KeptJobsLists.{found_later}
use Rattle.farm_law.proofs.KeptJobsRows.{keeps_frame}

-- ---- how many frames there are

length-frames_from : (job layer position : ℕ) (ns : List ℤ) → length (frames_from job layer position ns) ≡ length ns
length-frames_from job layer position [] = refl
length-frames_from job layer position (n ∷ ns) = ap suc (length-frames_from job layer (position + 1) ns)

-- as many as the layers say
pub length-frames_of : (job place : ℕ) (ls : List LayerSpec) → length (frames_of job place ls) ≡ frames_in ls
length-frames_of job place [] = refl
length-frames_of job place (l ∷ ls) =
    omega (
      arith,
      length-append (frames_from job place 0 l.numbers) (frames_of job (place + 1) ls),
      length-frames_from job place 0 l.numbers,
      length-frames_of job (place + 1) ls,
      sum_by-cons (λ (m : LayerSpec). length m.numbers) l ls,
    )

-- ---- how many of them are at a position of a layer

module _ (job layer position : ℕ) where
  abbrev pub counts : Frame → ℕ
  counts x = cond (is_placed job layer position x) 1 0

  fails_none : (x : Frame) → is_placed job layer position x ≡ false → counts x ≡ 0
  fails_none x fails = rw fails refl

  -- none of frames that aren't there
  from_zero : (j place low : ℕ) (ns : List ℤ) → ((k : ℕ) (n : ℤ) → low ≤ k → is_placed job layer position (new_frame j place k n) ≡ false) → sum_by counts (frames_from j place low ns) ≡ 0
  from_zero j place low [] fails = refl
  from_zero j place low (n ∷ ns) fails =
      omega (
        arith,
        sum_by-cons counts (new_frame j place low n) (frames_from j place (low + 1) ns),
        fails_none (new_frame j place low n) (fails low n (omega arith)),
        from_zero j place (low + 1) ns (λ k m above. fails k m (omega (arith, above))),
      )

  -- nor of layers whose frames fail
  pub of_zero : (j low : ℕ) (ls : List LayerSpec) → ((place k : ℕ) (n : ℤ) → low ≤ place → is_placed job layer position (new_frame j place k n) ≡ false) → sum_by counts (frames_of j low ls) ≡ 0
  of_zero j low [] fails = refl
  of_zero j low (l ∷ ls) fails =
      omega (
        arith,
        sum_by-append counts (frames_from j low 0 l.numbers) (frames_of j (low + 1) ls),
        from_zero j low 0 l.numbers (λ k n above. fails low k n (omega arith)),
        of_zero j (low + 1) ls (λ place k n above. fails place k n (omega (arith, above))),
      )

  -- a frame elsewhere fails
  at_later : (x : Frame) → position < x.position → is_placed job layer position x ≡ false
  at_later x later = false_from_ne_true (is_placed job layer position x) (λ h. absurd (omega (arith, later, (stands_at job layer position x h).position_is)))

  at_later_layer : (x : Frame) → layer < x.layer → is_placed job layer position x ≡ false
  at_later_layer x later = false_from_ne_true (is_placed job layer position x) (λ h. absurd (omega (arith, later, (stands_at job layer position x h).layer_is)))

  at_other_layer : (x : Frame) → (x.layer ≡ layer → ⊥) → is_placed job layer position x ≡ false
  at_other_layer x apart = false_from_ne_true (is_placed job layer position x) (λ h. apart (stands_at job layer position x h).layer_is)

  -- where the first counts, no later one does
  from_once_step : (j place low : ℕ) (n : ℤ) (ns : List ℤ) (b : Bool) → is_placed job layer position (new_frame j place low n) ≡ b → sum_by counts (frames_from j place (low + 1) ns) ≤ 1
      → sum_by counts (frames_from j place low (n ∷ ns)) ≤ 1
  from_once_step j place low n ns false is rest =
      omega (arith, sum_by-cons counts (new_frame j place low n) (frames_from j place (low + 1) ns), fails_none (new_frame j place low n) is, rest)
  from_once_step j place low n ns true is rest =
      let here = (stands_at job layer position (new_frame j place low n) is).position_is in
      let later = from_zero j place (low + 1) ns (λ k m above. at_later (new_frame j place k m) (omega (arith, here, above))) in
      let one : counts (new_frame j place low n) ≡ 1 = rw is refl in
      omega (arith, sum_by-cons counts (new_frame j place low n) (frames_from j place (low + 1) ns), one, later)

  -- at most one of a layer's
  from_once : (j place low : ℕ) (ns : List ℤ) → sum_by counts (frames_from j place low ns) ≤ 1
  from_once j place low [] = omega arith
  from_once j place low (n ∷ ns) = from_once_step j place low n ns (is_placed job layer position (new_frame j place low n)) refl (from_once j place (low + 1) ns)

  of_once_step : (j low : ℕ) (l : LayerSpec) (ls : List LayerSpec) (b : Bool) → eqb low layer ≡ b → sum_by counts (frames_of j (low + 1) ls) ≤ 1 → sum_by counts (frames_of j low (l ∷ ls)) ≤ 1
  of_once_step j low l ls true same rest =
      let here : low ≡ layer = eqb-true low layer same in
      let later = of_zero j (low + 1) ls (λ place k n above. at_later_layer (new_frame j place k n) (omega (arith, here, above))) in
      omega (arith, sum_by-append counts (frames_from j low 0 l.numbers) (frames_of j (low + 1) ls), from_once j low 0 l.numbers, later)
  of_once_step j low l ls false apart rest =
      let none = from_zero j low 0 l.numbers (λ k n above. at_other_layer (new_frame j low k n) (λ e. eqb-false low layer apart e)) in
      omega (arith, sum_by-append counts (frames_from j low 0 l.numbers) (frames_of j (low + 1) ls), none, rest)

  -- at most one
  pub of_once : (j low : ℕ) (ls : List LayerSpec) → sum_by counts (frames_of j low ls) ≤ 1
  of_once j low [] = omega arith
  of_once j low (l ∷ ls) = of_once_step j low l ls (eqb low layer) refl (of_once j (low + 1) ls)

  from_there_step : (low : ℕ) (n : ℤ) (ns : List ℤ) → (position ≡ low) ⊎ (low < position) → (low < position → 1 ≤ sum_by counts (frames_from job layer (low + 1) ns))
      → 1 ≤ sum_by counts (frames_from job layer low (n ∷ ns))
  from_there_step low n ns (inl here) later =
      let is = at_stands job layer position (new_frame job layer low n) (record { job_is = refl; layer_is = refl; position_is = sym here }) in
      let one : counts (new_frame job layer low n) ≡ 1 = rw is refl in
      omega (arith, sum_by-cons counts (new_frame job layer low n) (frames_from job layer (low + 1) ns), one)
  from_there_step low n ns (inr above) later = omega (arith, sum_by-cons counts (new_frame job layer low n) (frames_from job layer (low + 1) ns), later above)

  -- a position is the lowest one or above it
  here_or_later : (low : ℕ) → low ≤ position → (position ≡ low) ⊎ (low < position)
  here_or_later low le = split (cases_lt low position)
    where
      split : (low < position) ⊎ (position ≤ low) → (position ≡ low) ⊎ (low < position)
      split (inl above) = inr above
      split (inr below) = inl (omega arith)

  -- one at each position below the last
  from_there : (low : ℕ) (ns : List ℤ) → low ≤ position → position < low + length ns → 1 ≤ sum_by counts (frames_from job layer low ns)
  from_there low [] le below = absurd (omega arith)
  from_there low (n ∷ ns) le below = from_there_step low n ns (here_or_later low le) (λ above. from_there (low + 1) ns (omega (arith, above)) (omega arith))

-- each position of each layer has its frame
pub of_there : (job : ℕ) (limits : List (Option ℕ)) (low : ℕ) (ls : List LayerSpec) (n : ℕ) (l : LayerRow) (position : ℕ) → All IsFormedLayer ls → slice_get (layer_rows job limits low ls) n ≡ Some l → position < length (range_numbers l.range)
    → 1 ≤ sum_by (counts l.job l.place position) (frames_of job low ls)
of_there job limits low [] n l position each at within = absurd (none-some l at)
of_there job limits low (s ∷ ls) zero l position each at within =
    let same : layer_row job low (limit_in limits low) s ≡ l = same_Some (layer_row job low (limit_in limits low) s) l at in
    subst (λ (r : LayerRow). 1 ≤ sum_by (counts r.job r.place position) (frames_of job low (s ∷ ls))) same first
  where
    formed : IsFormedLayer s
    formed = each 0 s (omega arith)

    few : position < length s.numbers
    few = omega (arith, within, ap length formed.numbers_are, ap (λ (r : LayerRow). length (range_numbers r.range)) (same_Some (layer_row job low (limit_in limits low) s) l at))

    first : 1 ≤ sum_by (counts job low position) (frames_of job low (s ∷ ls))
    first =
        omega (
          arith,
          sum_by-append (counts job low position) (frames_from job low 0 s.numbers) (frames_of job (low + 1) ls),
          from_there job low position 0 s.numbers (omega arith) (omega (arith, few)),
        )
of_there job limits low (s ∷ ls) (suc n) l position each at within =
    omega (
      arith,
      sum_by-append (counts l.job l.place position) (frames_from job low 0 s.numbers) (frames_of job (low + 1) ls),
      of_there job limits (low + 1) ls n l position (λ k d h. each (suc k) d (omega (arith, h))) at within,
    )

-- ---- each has its number

module _ (all : List LayerRow) (job layer : ℕ) (row : LayerRow) (there : layer_in all job layer ≡ Some row) where
  -- a frame whose number is at its position in the range of its layer
  new_kept : (position : ℕ) (n : ℤ) → slice_get (range_numbers row.range) position ≡ Some n → is_kept_frame all (new_frame job layer position n) ≡ true
  new_kept position n at =
      keeps_frame all (new_frame job layer position n)
      (record {
        number =
            for_some-there (layer_in all job layer) (λ l. for_some (slice_get (range_numbers l.range) position) (λ number. int_eq number n)) row there
            (for_some-there (slice_get (range_numbers row.range) position) (λ number. int_eq number n) n at ((Decides-int_eq n n).1 refl));
        retries = omega arith;
        state = refl;
      })

  -- a layer's frames
  from_kept : (low : ℕ) (ns : List ℤ) → ((k : ℕ) (n : ℤ) → slice_get ns k ≡ Some n → slice_get (range_numbers row.range) (low + k) ≡ Some n) → list_all (is_kept_frame all) (frames_from job layer low ns) ≡ true
  from_kept low [] at = refl
  from_kept low (n ∷ ns) at =
      let zero_more : low + 0 ≡ low = omega arith in
      both_true (new_kept low n (subst (λ m. slice_get (range_numbers row.range) m ≡ Some n) zero_more (at 0 n refl)))
      (from_kept (low + 1) ns (λ k m h.
      let next : low + suc k ≡ low + 1 + k = omega arith in
      subst (λ i. slice_get (range_numbers row.range) i ≡ Some m) next (at (suc k) m h)))

-- the row of a layer is found first among those from it on
row_first : (job place : ℕ) (limit : Option ℕ) (l : LayerSpec) (rest : List LayerRow) → find (λ (r : LayerRow). eqb r.job job && eqb r.place place) (layer_row job place limit l ∷ rest) ≡ Some (layer_row job place limit l)
row_first job place limit l rest = rw (eq-eqb job job refl, eq-eqb place place refl) refl

row_other : (job place other : ℕ) (limit : Option ℕ) (l : LayerSpec) → (place ≡ other → ⊥) → find (λ (r : LayerRow). eqb r.job job && eqb r.place other) (layer_row job place limit l ∷ []) ≡ None
row_other job place other limit l apart = rw (and_right (eqb job job) (eqb place other) (ne_eqb place other apart)) refl

-- the first layer's frames
first_kept : (front : List LayerRow) (job low : ℕ) (limit : Option ℕ) (l : LayerSpec) (rest : List LayerRow) → IsFormedLayer l → layer_in front job low ≡ None
    → list_all (is_kept_frame (front ++ layer_row job low limit l ∷ rest)) (frames_from job low 0 l.numbers) ≡ true
first_kept front job low limit l rest formed none =
    from_kept (front ++ layer_row job low limit l ∷ rest) job low (layer_row job low limit l)
    (found_later (λ (r : LayerRow). eqb r.job job && eqb r.place low) front (layer_row job low limit l ∷ rest) none ∙ row_first job low limit l rest)
    0 l.numbers
    (λ k n at.
    let zero_more : 0 + k ≡ k = omega arith in
    rw zero_more (subst (λ ns. slice_get ns k ≡ Some n) formed.numbers_are at))

-- the frames of layers that come after others
pub of_kept : (front : List LayerRow) (job : ℕ) (limits : List (Option ℕ)) (low : ℕ) (ls : List LayerSpec) → All IsFormedLayer ls → ((place : ℕ) → low ≤ place → layer_in front job place ≡ None)
    → list_all (is_kept_frame (front ++ layer_rows job limits low ls)) (frames_of job low ls) ≡ true
of_kept front job limits low [] each none = refl
of_kept front job limits low (l ∷ ls) each none =
    let first = first_kept front job low (limit_in limits low) l (layer_rows job limits (low + 1) ls) (each 0 l (omega arith)) (none low (omega arith)) in
    let joined : (front ++ layer_row job low (limit_in limits low) l ∷ []) ++ layer_rows job limits (low + 1) ls ≡ front ++ layer_rows job limits low (l ∷ ls) = append_assoc front (layer_row job low (limit_in limits low) l ∷ []) (layer_rows job limits (low + 1) ls) in
    let rest =
    of_kept (front ++ layer_row job low (limit_in limits low) l ∷ []) job limits (low + 1) ls (λ k d h. each (suc k) d (omega (arith, h)))
    (λ place above.
    found_later (λ (r : LayerRow). eqb r.job job && eqb r.place place) front (layer_row job low (limit_in limits low) l ∷ []) (none place (omega (arith, above)))
    ∙ row_other job low place (limit_in limits low) l (λ e. absurd (omega (arith, above, e)))) in
    list_all-append (is_kept_frame (front ++ layer_rows job limits low (l ∷ ls))) (frames_from job low 0 l.numbers) (frames_of job (low + 1) ls)
    ∙ both_true first (subst (λ rows. list_all (is_kept_frame rows) (frames_of job (low + 1) ls) ≡ true) joined rest)
