-- An entry that is prepared, and a booking that is decided, on a copy of the farm.
use Rattle.std.proofs.Common.{◌≡◌, ◌∙◌, ◌==◌, ℕ, Bool, true, false, cond, not, List, [], ◌∷◌, ◌++◌, length, Option, Some, refl, sym, ap, subst}
use Rattle.farm_types.specs.declared.dispatch.Candidate.{Candidate}
use Rattle.farm_types.specs.declared.entry.Act.TheVariants as act
use Rattle.farm_types.specs.declared.entry.Entry.{Entry}
use Rattle.farm_types.specs.Dispatch.{book_entry}
use Rattle.farm_types.specs.Farm.{Farm}
use Rattle.farm_types.specs.Formed.{IsFormed}
use Rattle.farm_types.specs.Kept.{IsKeptFarm}
use Rattle.farm_types.specs.Run.{IsLegal, IsLegalStep, run_of}
use Rattle.farm_types.specs.Step.{HasCondition, after}
use Rattle.farm_books.specs.Bookings.{IsAsked, entry_of}
use Rattle.farm_changes.specs.Change.{HasHeard}
use Rattle.farm_keeper.specs.Rows as batched
use Rattle.farm_rows.specs.declared.row_change.RowChange.{RowChange}
use Rattle.farm_rows.specs.Changes.{NamesExactly}
use Rattle.line_answers.specs.farm_core.specs.declared.booking.Booking.{Booking}
use Rattle.line_answers.specs.farm_core.specs.declared.change.Change.{Change}
use Rattle.line_answers.specs.farm_core.specs.Bookings.{IsBookingOf, rows_in}
use Rattle.line_answers.specs.farm_core.specs.Change.{Makes, after_change}
use Rattle.store_law.specs.Stored.{batch_of, stored}
use Rattle.world_answers.specs.declared.walking.Walk.{Walk}
use Rattle.world_answers.specs.Walking.{Begins, Says, WalkedOn}
use Rattle.world_answers.proofs.Flags.{says_by}
use Rattle.world_answers.proofs.Walked.{one_walked}

not_is : (b : Bool) → not b ≡ cond b false true
not_is true = refl
not_is false = refl

module _ (rows : (f g : Farm) (cs : List RowChange) → IsKeptFarm f → IsKeptFarm g → NamesExactly f g cs → batched.after (batch_of cs) (stored f) ≡ stored g)
    (differ : (f g : Farm) → IsKeptFarm f → IsKeptFarm g → stored f ≡ stored g → f ≡ g)
    (runs : (f : Farm) (es : List Entry) → IsKeptFarm f → IsLegal f es → IsKeptFarm (run_of f es)) where
  says_unless : (f : Farm) (e : Entry) → IsKeptFarm f → IsLegalStep f e → (cs : List RowChange) → NamesExactly f (after f e) cs → (batch : List RowChange)
      → batch ≡ cs
      → (none : Bool) → none ≡ (length batch == 0) → Says (not none) f (after f e)
  says_unless f e kept legal cs names batch is none by =
      subst (λ (b : Bool). Says b f (after f e)) (sym (not_is none))
      (says_by rows differ runs f e kept legal cs names none (ap (λ (l : List RowChange). length l == 0) (sym is) ∙ sym by))

  pub began : (f : Farm) (e : Entry) (change : Change) → IsKeptFarm f → HasCondition f e.act → IsFormed e → Makes f e change → (batch : List RowChange)
      → batch ≡ change.rows
      → (none : Bool) → none ≡ (length batch == 0) → (heard : Option ℕ) → heard ≡ change.act.heard → (farm : Farm) → farm ≡ after_change f change
      → Begins f e (Some (record { farm = farm; stored = not none; heard = heard }))
  began f e change kept condition formed makes batch is none by heard heard_is farm farm_is =
      let legal : IsLegalStep f e = record { formed = formed; accepted = makes.planned.accepted; condition = condition } in
      record {
        legal = legal;
        farm = farm_is ∙ makes.planned.farm;
        said = says_unless f e kept legal change.rows (subst (λ (g : Farm). NamesExactly f g change.rows) makes.planned.farm makes.rows) batch is none by;
        heard = subst (HasHeard f e.act) (sym heard_is) makes.planned.heard;
      }

  pub walks_booked : (v w : Walk) (c : Candidate) (moment : ℕ) (b : Booking) → IsKeptFarm v.farm → IsAsked c.slot c.host moment b.booked → IsBookingOf v.farm b
      → (batch : List RowChange) → batch ≡ rows_in b.rows → (none : Bool) → none ≡ (length batch == 0) → w.farm ≡ after v.farm (entry_of b.booked)
      → w.entries ≡ v.entries ++ book_entry c moment ∷ [] → w.stored ≡ v.stored ++ not none ∷ [] → WalkedOn v (book_entry c moment ∷ []) w
  walks_booked v w c moment b kept asked booking batch is none by farm entries stored_is =
      let same : entry_of b.booked ≡ book_entry c moment = λ i. record { moment = asked.moment_is i; act = act.Book (asked.slot_is i) (asked.host_is i) } in
      one_walked v w (book_entry c moment) (not none) (subst (IsLegalStep v.farm) same booking.legal)
      (subst (λ (e : Entry). Says (not none) v.farm (after v.farm e)) same
      (says_unless v.farm (entry_of b.booked) kept booking.legal (rows_in b.rows) booking.rows batch is none by))
      (farm ∙ ap (after v.farm) same) entries stored_is
