-- The attempts of the slots, as the book of attempts lists them.
use Rattle.std.proofs.Common.{◌≡◌, ◌+◌, ◌-◌, ◌≤◌, ◌++◌, ◌∷◌, [], ◌∙◌, ℕ, zero, suc, Bool, true, false, eqb, List, Option, Some, None, length, map, option_map, replicate, append-nil, refl, sym, ap, subst, arith}
use Rattle.std.specs.Prelude.{option_and_then}
use Rattle.std.specs.List.{find, slice_get, slice_set, sum_by}
use Rattle.std.proofs.lemmas.List.{length-map, map-set}
use Rattle.std.proofs.lemmas.List.Sums.{sum_by-cons}
use Rattle.std.proofs.lemmas.Option.{same_Some, slice_get-map}
use Rattle.farm_types.specs.declared.attempt.ProcRow.{ProcRow}
use Rattle.farm_types.specs.declared.rows.SubRow.{SubRow}
use Rattle.farm_types.specs.declared.slot_row.Frame.{Frame}
use Rattle.farm_types.specs.declared.slot_row.SlotRow.{SlotRow}
use Rattle.farm_types.specs.Jobs.{fresh_slot, is_free, place_frames, slot_with}
use Rattle.farm_types.specs.Sums.{cores_in}
use Rattle.attempt_book.specs.Book.{AttemptLists, CanBegin}
use Rattle.job_book.specs.Book.{KeepsFrame}
use Rattle.sub_ledger.specs.Ledger.{IsWithin}
use Rattle.farm_books.specs.Install.{CanInstall, IsBeginning, MayBegin, proc_in, procs_of}

-- ---- one slot

-- a sum over the attempts is one over the slots
pub sum_of : (weight : Option ProcRow → ℕ) (slots : List SlotRow) → sum_by weight (procs_of slots) ≡ sum_by (λ (s : SlotRow). weight s.proc) slots
sum_of weight [] = refl
sum_of weight (s ∷ ss) = omega (arith, sum_by-cons weight s.proc (procs_of ss), sum_by-cons (λ (x : SlotRow). weight x.proc) s ss, sum_of weight ss)

-- a row that keeps the slot's frame finds the slot there
kept_there : (o : Option SlotRow) (row : SlotRow) → KeepsFrame o row → (s : SlotRow) × (o ≡ Some s)
kept_there None row keeps = absurd keeps
kept_there (Some s) row keeps = (s, refl)

-- what is set where it stands changes nothing
slice_set-same : {X : Type 0} (xs : List X) (i : ℕ) (x : X) → slice_get xs i ≡ Some x → slice_set xs i x ≡ xs
slice_set-same [] i x at = refl
slice_set-same (y ∷ ys) zero x at = ap (λ z. z ∷ ys) (sym (same_Some y x at))
slice_set-same (y ∷ ys) (suc i) x at = ap (λ zs. y ∷ zs) (slice_set-same ys i x at)

pub slice_set-twice : {X : Type 0} (xs : List X) (i : ℕ) (x y : X) → slice_set (slice_set xs i x) i y ≡ slice_set xs i y
slice_set-twice [] i x y = refl
slice_set-twice (z ∷ zs) zero x y = refl
slice_set-twice (z ∷ zs) (suc i) x y = ap (λ ws. z ∷ ws) (slice_set-twice zs i x y)

-- an attempt that may begin in the slot may do so once the slot's attempt has ended, since it had none
pub may_begin : (b : AttemptLists) (slots : List SlotRow) (slot : ℕ) (row : SlotRow) (p : ProcRow) → b.procs ≡ procs_of slots → CanInstall b.subs slots slot row → row.proc ≡ Some p
    → CanBegin (record b { procs = slice_set b.procs slot None }) slot p
may_begin b slots slot row p are can is =
    let s = kept_there (slice_get slots slot) row can.keeps in
    let begins : IsBeginning b.subs slots slot p = subst (MayBegin b.subs slots slot) is can.begins in
    let none : s.0.proc ≡ None = sym (ap (option_and_then proc_in) s.1) ∙ begins.free in
    let free : slice_get b.procs slot ≡ Some None = ap (λ (ps : List (Option ProcRow)). slice_get ps slot) are ∙ slice_get-map proc_in slots slot ∙ ap (option_map proc_in) s.1 ∙ ap Some none in
    let same : slice_set b.procs slot None ≡ b.procs = slice_set-same b.procs slot None free in
    subst (λ (ps : List (Option ProcRow)). CanBegin (record b { procs = ps }) slot p) (sym same)
    (record {
      free = free;
      host_within = begins.host_within;
      within = subst (λ (booked : ℕ). IsWithin (find (λ (x : SubRow). eqb x.sub p.sub) b.subs) (booked + p.cores))
          (sym (ap (sum_by (cores_in p.sub)) are ∙ sum_of (cores_in p.sub) slots)) begins.within;
    })

-- the slots with that row have the attempts with the row's
pub installed_procs : (procs : List (Option ProcRow)) (slots : List SlotRow) (slot : ℕ) (row : SlotRow) → procs ≡ procs_of slots → slice_set procs slot row.proc ≡ procs_of (slice_set slots slot row)
installed_procs procs slots slot row are = ap (λ (ps : List (Option ProcRow)). slice_set ps slot row.proc) are ∙ sym (map-set proc_in slots slot row)

-- ---- frames that are placed

fresh_procs : (xs : List Frame) → procs_of (map fresh_slot xs) ≡ replicate (length xs) None
fresh_procs [] = refl
fresh_procs (x ∷ xs) = ap (λ (ps : List (Option ProcRow)). None ∷ ps) (fresh_procs xs)

-- slots that stay have their attempts, and others that are added have none
record Grows (old new : List SlotRow) : Type 0 where
  more : ℕ
  long : length new ≡ length old + more
  procs : procs_of new ≡ procs_of old ++ replicate more None

grows_step : (s t : SlotRow) (old new : List SlotRow) → t.proc ≡ s.proc → Grows old new → Grows (s ∷ old) (t ∷ new)
grows_step s t old new same grows =
    record {
      more = grows.more;
      long = omega (arith, grows.long);
      procs = ap (λ (p : Option ProcRow). p ∷ procs_of new) same ∙ ap (λ (ps : List (Option ProcRow)). s.proc ∷ ps) grows.procs;
    }

placed_step : (b : Bool) (s : SlotRow) (ss : List SlotRow) (x : Frame) (xs : List Frame) → is_free s ≡ b → Grows ss (place_frames ss xs) → Grows ss (place_frames ss (x ∷ xs)) → Grows (s ∷ ss) (place_frames (s ∷ ss) (x ∷ xs))
placed_step true s ss x xs free here later = rw free (grows_step s (slot_with x s) ss (place_frames ss xs) refl here)
placed_step false s ss x xs free here later = rw free (grows_step s s ss (place_frames ss (x ∷ xs)) refl later)

placed_grow : (slots : List SlotRow) (xs : List Frame) → Grows slots (place_frames slots xs)
placed_grow [] xs = record { more = length xs; long = omega (arith, length-map xs fresh_slot); procs = fresh_procs xs }
placed_grow (s ∷ ss) [] = record { more = 0; long = omega arith; procs = sym (append-nil (procs_of (s ∷ ss))) }
placed_grow (s ∷ ss) (x ∷ xs) = placed_step (is_free s) s ss x xs refl (placed_grow ss xs) (placed_grow ss (x ∷ xs))

pub placed_count : (slots : List SlotRow) (xs : List Frame) → length slots ≤ length (place_frames slots xs)
placed_count slots xs =
    let grows = placed_grow slots xs in
    omega (arith, grows.long)

-- with as many slots without attempts more as there are slots more, the attempts are those of the slots
pub placed_procs : (procs : List (Option ProcRow)) (slots : List SlotRow) (xs : List Frame) (more : ℕ) → procs ≡ procs_of slots → more ≡ length (place_frames slots xs) - length slots
    → procs ++ replicate more None ≡ procs_of (place_frames slots xs)
placed_procs procs slots xs more are count =
    let grows = placed_grow slots xs in
    let same : more ≡ grows.more = omega (arith, grows.long) in
    ap (λ (ps : List (Option ProcRow)). ps ++ replicate more None) are ∙ ap (λ (n : ℕ). procs_of slots ++ replicate n None) same ∙ sym grows.procs
