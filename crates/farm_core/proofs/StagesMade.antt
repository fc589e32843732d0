-- The rows that a change makes, stage after stage: its act's, those of what follows, those of the jobs that finish, and the farm's own.
use Rattle.std.proofs.Common.{◌≡◌, ℕ, List, [], ◌∷◌, ◌++◌, Option, None, Some, refl, sym, ap, subst, ◌∙◌}
use Rattle.std.proofs.lemmas.Option.{none-some}
use Rattle.farm_types.specs.declared.entry.Entry.{Entry}
use Rattle.farm_types.specs.Farm.{Farm}
use Rattle.farm_types.specs.DependActs.{or_else}
use Rattle.farm_types.specs.Step.{act_refusal, finish_each, follow_refusal}
use Rattle.farm_rows.specs.declared.farm_row.FarmRow.TheVariants as row
use Rattle.farm_rows.specs.declared.head_row.HeadRow.{HeadRow}
use Rattle.farm_rows.specs.declared.row_change.RowChange.{RowChange}
use Rattle.farm_rows.specs.declared.row_change.RowChange.TheVariants as change_of
use Rattle.farm_rows.specs.declared.row_key.RowKey.{RowKey}
use Rattle.farm_rows.specs.Changes.{MakesBookRows, MakesRows, row_after, row_at}
use Rattle.farm_rows.specs.Rows.{head_row}
use Rattle.farm_rows.proofs.MadeRows.{makes_all, makes_then}
use Rattle.farm_changes.specs.Change as books
use Rattle.farm_depends.specs.Follow.{after_follow}
use Rattle.farm_depends.specs.FollowRows.{IsActed}
use Rattle.farm_depends.proofs.Beside.{depends_stay}
use Rattle.farm_core.specs.declared.change.Change.{Change}
use Rattle.farm_core.specs.Change.{Plans, after_act, after_change}
use Rattle.farm_core.proofs.HeadAfter.{change_recorded}

first_none : {X : Type 0} (o p : Option X) → or_else o p ≡ None → o ≡ None
first_none None p none = refl
first_none (Some x) p none = absurd (none-some x (sym none))

module _ (f : Farm) (e : Entry) (change : Change) (m : Plans f e change) where
  -- the farm after the act, and after what follows
  abbrev pub acted_farm : Farm
  acted_farm = after_act f change

  abbrev pub followed_farm : Farm
  followed_farm = after_follow acted_farm change.follow

  -- the act's rows lead to it
  acts_made : (rows : List RowChange) → MakesBookRows f acted_farm rows → MakesRows f acted_farm rows
  acts_made rows made = subst (λ (g : Farm). MakesRows f g rows) (depends_stay f change.act) (made f.depends f.met f.next_depend)

  -- what follows may ask of the act
  pub is_acted : (rows : List RowChange) → MakesBookRows f acted_farm rows → IsActed f rows change.follow acted_farm
  is_acted rows made =
      record {
        depends = depends_stay f change.act;
        rows = acts_made rows made;
        fits = m.ready.follows;
        count = m.ready.ends.settled.rows.jobs.slot_count;
      }

  -- the act's change makes what the entry's act does
  pub act_made : books.Makes f e change.act
  act_made =
      record {
        accepted = first_none (act_refusal f e.act) (follow_refusal f e.act) m.accepted;
        heard = m.heard;
        ready = m.ready.fits;
        unreserved = m.unreserved.act;
        farm = m.staged.act;
        answer = m.staged.known;
      }

  -- all changes, one after the other
  pub stages_made : (acts more finished : List RowChange) (head : HeadRow) → MakesBookRows f acted_farm acts → MakesRows acted_farm followed_farm more → MakesRows followed_farm (finish_each change.finish followed_farm) finished
      → head ≡ head_row (after_change f change)
      → (k : RowKey) → row_at (after_change f change) k ≡ row_after (((acts ++ more) ++ finished) ++ change_of.Put (row.Head head) ∷ []) k (row_at f k)
  stages_made acts more finished head first second third head_is k =
      let all : MakesRows f (finish_each change.finish followed_farm) ((acts ++ more) ++ finished) =
      makes_then f followed_farm (finish_each change.finish followed_farm) (acts ++ more) finished (makes_then f acted_farm followed_farm acts more (acts_made acts first) second) third
      in
      makes_all f (after_change f change) ((acts ++ more) ++ finished) (change_recorded f change) all k
      ∙ ap (λ (h : HeadRow). row_after (((acts ++ more) ++ finished) ++ change_of.Put (row.Head h) ∷ []) k (row_at f k)) (sym head_is)
