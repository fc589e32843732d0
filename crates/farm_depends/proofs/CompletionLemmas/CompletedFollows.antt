-- What follows an act that completes frames: groups are met, and frames open.
use Rattle.std.proofs.Common.{◌≡◌, inl, ℕ, ◌||◌, ◌&&◌, not, Bool, false, true, List, [], length, filter, None, Some, All, refl, sym, ap, subst, ◌∙◌, arith}
use Rattle.std.specs.Prelude.{nat_eq}
use Rattle.std.specs.List.{IsDistinct, slice_get}
use Rattle.std.proofs.lemmas.Bool.{and_parts}
use Rattle.std.proofs.lemmas.List.Elements.{All-nil, All-weaker}
use Rattle.farm_types.specs.declared.depend.DependRow.{DependRow}
use Rattle.farm_types.specs.declared.entry.Act.{Act}
use Rattle.farm_types.specs.declared.entry.Act.TheVariants.{Heard, KillJob, EatFrame}
use Rattle.farm_types.specs.declared.entry.Entry.{Entry}
use Rattle.farm_types.specs.declared.slot_row.SlotRow.{SlotRow}
use Rattle.farm_types.specs.Depends.{groups_of, is_done}
use Rattle.farm_types.specs.Farm.{Farm}
use Rattle.farm_types.specs.Run.{HasItsHosts, IsSound}
use Rattle.farm_types.specs.Settle.{settle}
use Rattle.farm_types.specs.Step.{HasCondition, acted, follow_refusal, followed, moment_of}
use Rattle.farm_law.proofs.KeptChanges.{kept_hosts}
use Rattle.farm_law.proofs.SafeRuns.{acted_law, moment_law}
use Rattle.depend_graph.specs.Graph.{is_flagged, opened_between, with_all_done}
use Rattle.depend_book.specs.Book.{DependLists, IsBook, joined}
use Rattle.farm_changes.specs.Change.{Makes, after_change, with_more, with_rows}
use Rattle.farm_changes.specs.declared.change.Change.{Change}
use Rattle.farm_changes.specs.declared.change.More.{More}
use Rattle.farm_changes.specs.declared.change.More.TheVariants as more
use Rattle.farm_draft.specs.Rows.{put_slots}
use Rattle.farm_depends.specs.Completing.{IsCompleting, is_blocked_in, is_left_blocked, left_blocked, newly_done}
use Rattle.depend_book.specs.Fits.{IsBeside}
use Rattle.farm_depends.specs.Follow.{AreRoomy, Counts, Follows, IsDropThere, IsMovable, is_listed}
use Rattle.farm_depends.specs.declared.follow.Follow.{Follow}
use Rattle.farm_depends.proofs.CompletionLemmas.Completed.{Completes}
use Rattle.farm_depends.proofs.CompletionLemmas.Completions.{CompletesFrames, acted_completes, blocked_undone}
use Rattle.farm_depends.proofs.Joined.{joined_acted}
use Rattle.farm_depends.proofs.CompletionLemmas.NewlyDone.{length-put_slots, newly_are, newly_differ, newly_undone}
use Rattle.farm_depends.proofs.CompletionLemmas.Opens.{blocked_movable, opening, opening_farm}
use Rattle.depend_book.proofs.Pairs.{groups_joined}
use Rattle.farm_depends.proofs.CompletionLemmas.Reopened.{done_listed}
use Rattle.farm_depends.proofs.RowLemmas.RowsDiffer.{rows_differ}

-- ---- which rows of slots the change has

more_slots : (f : Farm) (moment : ℕ) (m : More) → (with_more f moment m).next_job ≡ f.next_job → (with_more f moment m).slots ≡ f.slots
more_slots f moment more.Nothing next = refl
more_slots f moment (more.Show name) next = refl
more_slots f moment (more.Alloc facility tag) next = refl
more_slots f moment (more.Sub sub size burst) next = refl
more_slots f moment (more.Limit planned name most) next = refl
more_slots f moment (more.Boot planned line) next = refl
more_slots f moment (more.Paused job paused) next = refl
more_slots f moment (more.Job placing spec) next = absurd (omega (arith, next))

-- a change that places no job sets slots alone
change_slots : (f : Farm) (e : Entry) (change : Change) → Makes f e change → (acted f e).next_job ≡ f.next_job → (after_change f change).slots ≡ put_slots f.slots change.rows.slots.items
change_slots f e change made next = more_slots (with_rows f change) change.moment change.more (ap (λ (g : Farm). g.next_job) made.farm ∙ next)

-- ---- what the act leaves

completing_free : (f : Farm) (act : Act) → IsCompleting act → HasCondition f act
completing_free f (Heard heard) c = tt
completing_free f (KillJob job) c = tt
completing_free f (EatFrame p) c = tt
completing_free f other c = absurd c

-- what the definitions say of the act
record SaysSettle (f g : Farm) (act : Act) (count : ℕ) : Type 0 where
  pub accepted : follow_refusal f act ≡ None
  pub farm : followed act g ≡ settle g
  pub counts : Counts f act count

says_settle : (f g : Farm) (act : Act) (count : ℕ) → IsCompleting act → SaysSettle f g act count
says_settle f g (Heard heard) count c = record { accepted = refl; farm = refl; counts = tt }
says_settle f g (KillJob job) count c = record { accepted = refl; farm = refl; counts = tt }
says_settle f g (EatFrame p) count c = record { accepted = refl; farm = refl; counts = tt }
says_settle f g other count c = absurd c

-- what was blocked and isn't done now isn't among those that are done, and the other way round
left_by : (blocked was now listed : Bool) → (blocked ≡ true → was ≡ false) → now ≡ (was || listed) → (blocked && not now) ≡ (blocked && not listed)
left_by true was now listed undone is = ap not (is ∙ ap (λ (b : Bool). b || listed) (undone refl))
left_by false was now listed undone is = refl

-- ---- what follows

module _ (f : Farm) (b : DependLists) (e : Entry) (change : Change) (whole : IsBeside f b) (made : Makes f e change) (c : IsCompleting e.act) where
  abbrev old : Farm
  old = joined f b

  made_farm : joined (after_change f change) b ≡ acted old e
  made_farm = ap (λ (g : Farm). joined g b) made.farm ∙ joined_acted b f e

  abbrev moment : ℕ
  moment = moment_of old e.moment

  hosts_there : HasItsHosts old
  hosts_there = kept_hosts old whole.kept.rows

  leaves : CompletesFrames old (acted old e)
  leaves =
      acted_completes old e c ((moment_law old moment).sound whole.kept.rows.sound hosts_there) ((moment_law old moment).hosts whole.kept.rows.sound hosts_there)

  after_sound : IsSound (acted old e)
  after_sound = (acted_law old e (completing_free old e.act c)).sound whole.kept.rows.sound hosts_there

  slots_made : (acted old e).slots ≡ (after_change f change).slots
  slots_made = ap (λ (g : Farm). g.slots) (sym made_farm)

  next_made : (acted f e).next_job ≡ f.next_job
  next_made = ap (λ (g : Farm). g.next_job) (joined_acted b f e) ∙ leaves.next

  groups_left : (i : ℕ) (d : DependRow) → slice_get b.rows i ≡ Some d → d.met_all ≡ false → groups_of (joined (after_change f change) b) d ≡ groups_of old d
  groups_left i d at unmet = ap (λ (g : Farm). groups_of g d) made_farm ∙ leaves.same.groups i d at unmet

  rows_slots : (after_change f change).slots ≡ put_slots f.slots change.rows.slots.items
  rows_slots = change_slots f e change made next_made

  still_done : (slot : ℕ) → is_done f.slots slot ≡ true → is_done (after_change f change).slots slot ≡ true
  still_done slot h = ap (λ (slots : List SlotRow). is_done slots slot) (sym slots_made) ∙ (leaves.slots slot).done h

  abbrev pub done : List ℕ
  done = newly_done change.rows.slots.items

  pub done_is : (slot : ℕ) → is_done (after_change f change).slots slot ≡ (is_done f.slots slot || is_listed done slot)
  done_is slot =
      ap (λ (slots : List SlotRow). is_done slots slot) rows_slots
      ∙ newly_are f.slots f.subs change.rows.slots.items (rows_differ f e change made) made.ready.rows.slots_ready made.ready.rows.slots_stood
      (λ n h. ap (λ (slots : List SlotRow). is_done slots n) (sym rows_slots) ∙ still_done n h) slot

  -- the frames that it completes are within what the graph asks
  pub completed_differ : IsDistinct nat_eq done
  completed_differ = newly_differ change.rows.slots.items (rows_differ f e change made)

  pub completed_undone : All (λ slot. is_flagged b.graph.done slot ≡ false) done
  completed_undone = All-weaker (λ slot. is_done f.slots slot ≡ false) (λ slot. is_flagged b.graph.done slot ≡ false) (λ slot h. whole.fits.done slot ∙ h) done (newly_undone f.slots change.rows.slots.items made.ready.rows.slots_stood)

  -- frames are blocked then that were, but for those that are done
  blocked_is : is_left_blocked f.slots done ≡ is_blocked_in (after_change f change).slots
  blocked_is i slot =
      sym
      (ap (λ (slots : List SlotRow). is_blocked_in slots slot) (sym slots_made)
      ∙ ((leaves.slots slot).blocked
      ∙ (ap (λ (slots : List SlotRow). is_blocked_in f.slots slot && not (is_done slots slot)) slots_made
      ∙ left_by (is_blocked_in f.slots slot) (is_done f.slots slot) (is_done (after_change f change).slots slot) (is_listed done slot) (blocked_undone f.slots slot) (done_is slot)))) i

  blocked_before : (slot : ℕ) → is_blocked_in (after_change f change).slots slot ≡ true → is_blocked_in f.slots slot ≡ true
  blocked_before slot h =
      (and_parts (is_blocked_in f.slots slot) (not (is_listed done slot)) (ap (λ (test : ℕ → Bool). test slot) blocked_is ∙ h)).0

  module _ (book : IsBook b) where
    completes : Completes f (after_change f change) b done
    completes =
        record {
          book = book;
          fits = whole.fits;
          slots = let long = ap length rows_slots ∙ length-put_slots f.slots change.rows.slots.items in omega (arith, long, whole.kept.rows.jobs.slot_count);
          met = whole.kept.depends.met;
          groups_stay = λ i d at unmet. sym (groups_joined (after_change f change) b d) ∙ (groups_left i d at unmet ∙ groups_joined f b d);
          done_are = done_is;
        }

    abbrev pub opened : List ℕ
    opened = left_blocked f.slots done (opened_between b.graph.depends (with_all_done b.graph done).depends)

    opened_is : opened ≡ opening (after_change f change) b done
    opened_is = ap (λ (test : ℕ → Bool). filter test (opened_between b.graph.depends (with_all_done b.graph done).depends)) blocked_is

    pub completed_follows : (w : Follow) → w.depends ≡ [] → w.spares ≡ [] → w.dropped ≡ None → w.done ≡ done → w.reopened ≡ None → w.opened ≡ opened → w.blocked ≡ []
        → Follows (joined f b) (joined (after_change f change) b) e.act w
    completed_follows w depends spares dropped done_list reopened opened_list blocked =
        let says = says_settle old (joined (after_change f change) b) e.act w.count c in
        let sound = subst IsSound (sym made_farm) after_sound in
        record {
          accepted = says.accepted;
          fits = record {
            groups_stay = groups_left;
            one_kind = inl ((depends, dropped), reopened);
            room = subst (AreRoomy (joined (after_change f change) b)) (sym depends) tt;
            drop_there = subst (IsDropThere (joined (after_change f change) b)) (sym dropped) tt;
            done_differ = subst (IsDistinct nat_eq) (sym done_list) completed_differ;
            undone = subst (All (λ slot. is_done f.slots slot ≡ false)) (sym done_list) (newly_undone f.slots change.rows.slots.items made.ready.rows.slots_stood);
            done_are = λ slot. done_is slot ∙ done_listed (is_done f.slots slot) done w slot done_list reopened;
            opened_movable =
                subst (All (IsMovable (after_change f change).slots)) (sym (opened_list ∙ opened_is))
                (blocked_movable (joined (after_change f change) b) sound (opened_between b.graph.depends (with_all_done b.graph done).depends));
            blocked_movable = subst (All (IsMovable (after_change f change).slots)) (sym blocked) (All-nil _);
          };
          unreserved = spares;
          farm =
              opening_farm f (after_change f change) b done completes whole.kept.depends.blocked blocked_before w depends dropped blocked (opened_list ∙ opened_is)
              ∙ sym says.farm;
          counts = says.counts;
        }
