-- What becomes of a slot as jobs finish: it is as it was, with its frame's layer and job, or it is free at a later
-- version.
use Rattle.std.proofs.Common.{◌≡◌, ℕ, ◌<◌, ◌≤◌, Bool, true, false, cond, eqb, List, [], ◌∷◌, Option, Some, None, refl, sym, ap, subst, ◌∙◌, ◌⊎◌, inl, inr, arith, option_map}
use Rattle.std.specs.List.{slice_get}
use Rattle.std.proofs.lemmas.Option.{none-some, same_Some, slice_get-map}
use Rattle.farm_types.specs.declared.entry.Act.{Act}
use Rattle.farm_types.specs.declared.entry.Act.TheVariants.{EatFrame, Heard, KillJob}
use Rattle.farm_types.specs.declared.limits.TheConstants.{LAST_VERSION}
use Rattle.farm_types.specs.declared.slot_row.Frame.{Frame}
use Rattle.farm_types.specs.declared.slot_row.SlotRow.{SlotRow}
use Rattle.farm_types.specs.Booking.{version_of}
use Rattle.farm_types.specs.Farm.{Farm, for_some}
use Rattle.farm_types.specs.Finish.{freed_row, is_frame_of}
use Rattle.farm_types.specs.Step.{closed, finish_all, finish_each, finish_one, finishing}
use Rattle.farm_law.proofs.Finished.{free_row, raised_above}
use Rattle.farm_law.proofs.FinishedJobs.{still_found}
use Rattle.farm_law.proofs.FinishedRows.{layer_stays}
use Rattle.farm_law.proofs.Follows.{raised_raises}
use Rattle.entry_law.proofs.RowsOf.{RowsOf, rows_same, rows_then}
use Rattle.entry_law.proofs.SlotGoes.{Belongs, frame_belongs, slot_belongs}

pub record IsSpared (f g : Farm) (n : ℕ) : Type 0 where
  pub row : slice_get g.slots n ≡ slice_get f.slots n
  pub rows : (p : Belongs) → slot_belongs (slice_get g.slots n) ≡ Some p → RowsOf f g p

pub record IsFreed (old new : Option SlotRow) : Type 0 where
  pub empty : slot_belongs new ≡ None
  pub version : version_of old ≤ version_of new
  pub rises : version_of old < LAST_VERSION → version_of old < version_of new

abbrev pub Closes : Farm → Farm → ℕ → Type 0
Closes f g n = IsSpared f g n ⊎ IsFreed (slice_get f.slots n) (slice_get g.slots n)

spared_then : (f g k : Farm) (n : ℕ) → IsSpared f g n → IsSpared g k n → IsSpared f k n
spared_then f g k n first second =
    record {
      row = second.row ∙ first.row;
      rows = λ p at. rows_then f g k p (first.rows p (subst (λ (o : Option SlotRow). slot_belongs o ≡ Some p) second.row at)) (second.rows p at);
    }

freed_then : (x y z : Option SlotRow) → IsFreed x y → IsFreed y z → IsFreed x z
freed_then x y z first second =
    record { empty = second.empty; version = omega (arith, first.version, second.version); rises = λ below. let rose = first.rises below in omega (arith, rose, second.version) }

closes_then : (f g k : Farm) (n : ℕ) → Closes f g n → Closes g k n → Closes f k n
closes_then f g k n (inl first) (inl second) = inl (spared_then f g k n first second)
closes_then f g k n (inl first) (inr second) = inr (subst (λ (o : Option SlotRow). IsFreed o (slice_get k.slots n)) first.row second)
closes_then f g k n (inr first) (inl second) = inr (subst (IsFreed (slice_get f.slots n)) (sym second.row) first)
closes_then f g k n (inr first) (inr second) = inr (freed_then (slice_get f.slots n) (slice_get g.slots n) (slice_get k.slots n) first second)

closes_same : (f : Farm) (n : ℕ) → Closes f f n
closes_same f n = inl (record { row = refl; rows = λ p at. rows_same f p })

-- ---- one job

other_frame : (frame : Option Frame) (job : ℕ) (p : Belongs) → for_some frame (λ (x : Frame). eqb x.job job) ≡ false → frame_belongs frame ≡ Some p
    → eqb p.job job ≡ false
other_frame None job p other at = absurd (none-some p at)
other_frame (Some x) job p other at = subst (λ (q : Belongs). eqb q.job job ≡ false) (same_Some _ p at) other

module _ (job : ℕ) (f : Farm) where
  abbrev now : Farm
  now = finish_one job f

  other_rows : (p : Belongs) → eqb p.job job ≡ false → RowsOf f now p
  other_rows p other =
      record {
        layer = λ l at. layer_stays job f.layers p.job p.layer l other at;
        job = λ j at pending. (j, still_found job f.slots f.next_finish p.job f.jobs j other at pending, refl, pending);
      }

  free_goes : (s : SlotRow) → IsFreed (Some s) (Some (free_row s))
  free_goes s = record { empty = refl; version = raised_raises.rises s.version; rises = λ below. let rose = raised_above s.version below in omega (arith, rose) }

  row_closes : (n : ℕ) (s : SlotRow) (b : Bool) → is_frame_of job s ≡ b → slice_get f.slots n ≡ Some s
      → slice_get now.slots n ≡ Some (cond b (free_row s) s) → Closes f now n
  row_closes n s true is before after =
      inr (subst (λ (o : Option SlotRow). IsFreed o (slice_get now.slots n)) (sym before) (subst (IsFreed (Some s)) (sym after) (free_goes s)))
  row_closes n s false is before after =
      inl (record {
        row = after ∙ sym before;
        rows = λ p at. other_rows p (other_frame s.frame job p is (subst (λ (o : Option SlotRow). slot_belongs o ≡ Some p) after at));
      })

  closes_by : (n : ℕ) (o : Option SlotRow) → slice_get f.slots n ≡ o → Closes f now n
  closes_by n None at =
      let gone : slice_get now.slots n ≡ None = slice_get-map (freed_row job) f.slots n ∙ ap (option_map (freed_row job)) at in
      inl (record { row = gone ∙ sym at; rows = λ p there. absurd (none-some p (subst (λ (o : Option SlotRow). slot_belongs o ≡ Some p) gone there)) })
  closes_by n (Some s) at = row_closes n s (is_frame_of job s) refl at (slice_get-map (freed_row job) f.slots n ∙ ap (option_map (freed_row job)) at)

  one_closes : (n : ℕ) → Closes f now n
  one_closes n = closes_by n (slice_get f.slots n) refl

-- ---- all that finish

each_closes : (jobs : List ℕ) (f : Farm) (n : ℕ) → Closes f (finish_each jobs f) n
each_closes [] f n = closes_same f n
each_closes (job ∷ jobs) f n = closes_then f (finish_one job f) (finish_each jobs (finish_one job f)) n (one_closes job f n) (each_closes jobs (finish_one job f) n)

all_closes : (f : Farm) (n : ℕ) → Closes f (finish_all f) n
unfolding finish_all
all_closes f n = each_closes (finishing f) f n

pub act_closes : (act : Act) (f : Farm) (n : ℕ) → Closes f (closed act f) n
act_closes (Heard heard) f n = all_closes f n
act_closes (KillJob job) f n = all_closes f n
act_closes (EatFrame p) f n = all_closes f n
act_closes act f n = closes_same f n
