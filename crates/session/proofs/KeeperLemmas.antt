-- A keeper over the lines of a session.
use Rattle.std.proofs.Common.{◌≡◌, ℕ, cond, List, [], ◌∷◌, ◌++◌, inl, arith, refl, sym, ap, ◌∙◌, subst}
use Rattle.std.proofs.lemmas.List.Sums.{sum_by-cons}
use Rattle.farm_types.specs.Farm.{Farm}
use Rattle.fault_counts.specs.Counts.{HasRisenBy, incremented_if, last_count}
use Rattle.farm_keeper.specs.Keeping.{Committing}
use Rattle.farm_keeper.specs.Rows.{Rows}
use Rattle.fault_counts.proofs.CountLaws.{HasRisenBy-cons, last_count-stays}
use Rattle.farm_lines.specs.Transcript.{Exchange, answer_at, entries_in, farm_after, farm_next, is_store_mark}
use Rattle.farm_types.specs.declared.entry.Entry.{Entry}
use Rattle.farm_load.specs.booking_recorder.specs.Going.{Journals}
use Rattle.farm_load.specs.booking_recorder.specs.Recording.{Recording}
use Rattle.farm_load.specs.booking_recorder.proofs.Journaled.{journals_then}
use Rattle.session.specs.Sessions.{GoesOnAt, GoesOnOver, RecordsOver, WentOn, store_marks}
use Rattle.session.proofs.SeatLemmas.{entries_more}
use Rattle.session.proofs.SessionLemmas.{GoesOnBy}

-- a line's weight among the marks of the store
abbrev weight : Exchange → ℕ
weight t = cond (is_store_mark t.mark) 1 0

module _ {K : Type 0} (commits : Committing K) (tells : K → Type 0) (holds left : K → Rows → Type 0) (faults : K → ℕ) where
  -- a keeper that tells the truth at the end told it before
  pub over_told : (f : Farm) (ts : List Exchange) (before now : K) → GoesOnOver commits tells holds left faults f ts before now → tells now → tells before
  over_told f [] before now is told = subst tells is told
  over_told f (t ∷ ts) before now over told = over.1.keeper.told (over_told (farm_next f t) ts over.0 now over.2 told)

  -- its count stays at the last value
  over_full : (f : Farm) (ts : List Exchange) (before now : K) → GoesOnOver commits tells holds left faults f ts before now → faults before ≡ last_count → faults now ≡ last_count
  over_full f [] before now is full = ap faults is ∙ full
  over_full f (t ∷ ts) before now over full =
      over_full (farm_next f t) ts over.0 now over.2
      (last_count-stays (is_store_mark t.mark) (faults over.0) (over.1.keeper.counted ∙ ap (incremented_if (is_store_mark t.mark)) full))

  -- it rises by the marks of the store
  pub over_risen : (f : Farm) (ts : List Exchange) (before now : K) → GoesOnOver commits tells holds left faults f ts before now → HasRisenBy (store_marks ts) (faults before) (faults now)
  over_risen f [] before now is = inl (omega (arith, ap faults is))
  over_risen f (t ∷ ts) before now over =
      subst (λ (marks : ℕ). HasRisenBy marks (faults before) (faults now)) (sym (sum_by-cons weight t ts))
      (HasRisenBy-cons (is_store_mark t.mark) (store_marks ts) (faults before) (faults over.0) (faults now) over.1.keeper.counted (over_full (farm_next f t) ts over.0 now over.2)
      (over_risen (farm_next f t) ts over.0 now over.2))

  -- one line more
  over_append : (f : Farm) (ts : List Exchange) (t : Exchange) (before mid now : K) → GoesOnOver commits tells holds left faults f ts before mid → GoesOnAt commits tells holds left faults (farm_after f ts) t mid now
      → GoesOnOver commits tells holds left faults f (ts ++ t ∷ []) before now
  over_append f [] t before mid now is at = (now, subst (λ (k : K). GoesOnAt commits tells holds left faults f t k now) is at, refl)
  over_append f (u ∷ ts) t before mid now over at = (over.0, over.1, over_append (farm_next f u) ts t over.0 mid now over.2 at)

  pub records_more : (r mid now : Recording K)
      → GoesOnBy r.farm mid.farm (WentOn commits tells holds left faults mid now) (now.keeper ≡ mid.keeper) (RecordsOver commits tells holds left faults r mid.keeper mid.view)
      (RecordsOver commits tells holds left faults r now.keeper now.view)
  records_more r mid now ts t over is goes stays =
      let at : GoesOnAt commits tells holds left faults mid.farm t mid.keeper now.keeper = record { keeper = goes.on.keeper; stays = stays; told = goes.on.told; recorded = goes.recorded } in
      let own : Journals mid.view now.view (answer_at (farm_after r.farm ts) t).entries = subst (λ (f : Farm). Journals mid.view now.view (answer_at f t).entries) is goes.on.journals in
      record {
        lines = over_append r.farm ts t r.keeper mid.keeper now.keeper over.lines (subst (λ (f : Farm). GoesOnAt commits tells holds left faults f t mid.keeper now.keeper) is at);
        journals =
            subst (λ (es : List Entry). Journals r.view now.view es) (sym (entries_more r.farm ts t))
            (journals_then r.view mid.view now.view (entries_in r.farm ts) (answer_at (farm_after r.farm ts) t).entries over.journals own);
      }

  -- nothing more
  pub records_still : (r mid now : Recording K) (ts : List Exchange) → now ≡ mid → RecordsOver commits tells holds left faults r mid.keeper mid.view ts
      → RecordsOver commits tells holds left faults r now.keeper now.view ts
  records_still r mid now ts same over = subst (λ (x : Recording K). RecordsOver commits tells holds left faults r x.keeper x.view ts) (sym same) over
