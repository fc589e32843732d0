-- What follows an act is the same at another moment.
use Rattle.std.proofs.Common.{◌≡◌, ℕ, ◌+◌, cond, List, [], ◌∷◌, ◌++◌, map, Option, None, Some, Ok, Err, refl, sym, ap, subst, ◌∙◌}
use Rattle.std.specs.Prelude.{Result}
use Rattle.farm_types.specs.declared.depend.DependRow.{DependRow}
use Rattle.farm_types.specs.declared.depend.DependSpec.{DependSpec}
use Rattle.farm_types.specs.declared.depend.MetRow.{MetRow}
use Rattle.farm_types.specs.declared.entry.Act.{Act}
use Rattle.farm_types.specs.declared.entry.Act.TheVariants.{Heard, Submit, AddDepend, DropDepend, KillJob, EatFrame, RetryFrame}
use Rattle.farm_types.specs.declared.entry.Entry.{Entry}
use Rattle.farm_types.specs.declared.job.JobSpec.{JobSpec}
use Rattle.farm_types.specs.declared.slot_row.SlotRow.{SlotRow}
use Rattle.farm_types.specs.declared.states.FrameState.TheVariants as frame_state
use Rattle.farm_types.specs.DependActs.{add_depend, add_depends, dropped, with_depends}
use Rattle.farm_types.specs.Depends.{groups_of}
use Rattle.farm_types.specs.Farm.{Farm, show_named}
use Rattle.farm_types.specs.Settle.{blocked_from, blocked_row, blocks, in_state, kept_version, met_rows, met_rows_of, opened_from, opens, raised, settle, settled_row, with_blocked, with_met, with_opened}
use Rattle.farm_types.specs.Step.{after_act, after_submit, at_moment, followed, moment_of}
use Rattle.depend_book.specs.declared.new_depend.NewDepend.{NewDepend}
use Rattle.farm_changes.specs.Change.{Makes, after_change}
use Rattle.farm_changes.specs.declared.change.Change.{Change}
use Rattle.farm_types.specs.declared.fault.FarmFault.{FarmFault}
use Rattle.farm_types.specs.declared.fault.FarmFault.TheVariants.{Refused, NoMemory}
use Rattle.farm_depends.specs.Follow.{AreRoomy, FollowFits, Follows, IsDropThere, IsRoomy, PreparesFollow, after_follow, slots_after, with_all, with_row, without}
use Rattle.farm_depends.specs.declared.follow.Follow.{Follow}

module _ (moment : ℕ) where
  groups_later : (f : Farm) (d : DependRow) → groups_of (at_moment f moment) d ≡ groups_of f d
  unfolding groups_of
  groups_later f d = refl

  -- ---- what is settled

  rows_later : (f : Farm) (ds : List DependRow) → map (settled_row (at_moment f moment)) ds ≡ map (settled_row f) ds
  unfolding groups_of
  rows_later f [] = refl
  rows_later f (d ∷ ds) = ap (λ (es : List DependRow). settled_row f d ∷ es) (rows_later f ds)

  marks_later : (f : Farm) (ds : List DependRow) → met_rows (at_moment f moment) ds ≡ met_rows f ds
  unfolding groups_of
  marks_later f [] = refl
  marks_later f (d ∷ ds) = ap (λ (ms : List MetRow). met_rows_of f d ++ ms) (marks_later f ds)

  met_later : (f : Farm) → with_met (at_moment f moment) ≡ at_moment (with_met f) moment
  met_later f =
      ap (λ (ds : List DependRow). record (at_moment f moment) { depends = ds; met = met_rows (at_moment f moment) f.depends }) (rows_later f f.depends)
      ∙ ap (λ (ms : List MetRow). record (at_moment f moment) { depends = map (settled_row f) f.depends; met = ms }) (marks_later f f.depends)

  opened_from_later : (f : Farm) (slot : ℕ) (ss : List SlotRow) → opened_from (at_moment f moment) slot ss ≡ opened_from f slot ss
  unfolding groups_of
  opened_from_later f slot [] = refl
  opened_from_later f slot (s ∷ ss) = ap (λ (rest : List SlotRow). cond (opens f slot s) (in_state frame_state.Waiting s) s ∷ rest) (opened_from_later f (slot + 1) ss)

  opened_later : (f : Farm) → with_opened (at_moment f moment) ≡ at_moment (with_opened f) moment
  opened_later f = ap (λ (ss : List SlotRow). record (at_moment f moment) { slots = ss }) (opened_from_later f 0 f.slots)

  settle_later : (f : Farm) → settle (at_moment f moment) ≡ at_moment (settle f) moment
  unfolding settle
  settle_later f = ap with_opened (met_later f) ∙ opened_later (with_met f)

  blocked_from_later : (change : ℕ → ℕ) (f : Farm) (slot : ℕ) (ss : List SlotRow) → blocked_from change (at_moment f moment) slot ss ≡ blocked_from change f slot ss
  unfolding groups_of
  blocked_from_later change f slot [] = refl
  blocked_from_later change f slot (s ∷ ss) = ap (λ (rest : List SlotRow). cond (blocks f slot s) (blocked_row change s) s ∷ rest) (blocked_from_later change f (slot + 1) ss)

  blocked_later : (change : ℕ → ℕ) (f : Farm) → with_blocked change (at_moment f moment) ≡ at_moment (with_blocked change f) moment
  unfolding with_blocked
  blocked_later change f = ap (λ (ss : List SlotRow). record (at_moment f moment) { slots = ss }) (blocked_from_later change f 0 f.slots)

  -- ---- acts

  adds_later : (f : Farm) (specs : List DependSpec) → add_depends (at_moment f moment) specs ≡ at_moment (add_depends f specs) moment
  adds_later f [] = refl
  adds_later f (spec ∷ specs) = adds_later (add_depend f spec) specs

  blocked_settle_later : (change : ℕ → ℕ) (f : Farm) → with_blocked change (settle (at_moment f moment)) ≡ at_moment (with_blocked change (settle f)) moment
  blocked_settle_later change f = ap (with_blocked change) (settle_later f) ∙ blocked_later change (settle f)

  depends_later : (f : Farm) (specs : List DependSpec) → with_depends (at_moment f moment) specs ≡ at_moment (with_depends f specs) moment
  depends_later f [] = refl
  depends_later f (spec ∷ specs) =
      ap (λ (g : Farm). with_blocked kept_version (settle g)) (adds_later f (spec ∷ specs)) ∙ blocked_settle_later kept_version (add_depends f (spec ∷ specs))

  followed_later : (f : Farm) (act : Act) → followed act (at_moment f moment) ≡ at_moment (followed act f) moment
  followed_later f (Heard heard) = settle_later f
  followed_later f (Submit spec) = depends_later f spec.depends
  followed_later f (AddDepend spec) = blocked_settle_later raised (add_depend f spec)
  followed_later f (DropDepend depend) = settle_later (dropped f depend)
  followed_later f (KillJob job) = settle_later f
  followed_later f (EatFrame p) = settle_later f
  followed_later f (RetryFrame p) = blocked_later kept_version f
  followed_later f other = refl

  -- ---- what follows

  all_later : (f : Farm) (ns : List NewDepend) → with_all (at_moment f moment) ns ≡ at_moment (with_all f ns) moment
  all_later f [] = refl
  all_later f (n ∷ ns) = all_later (with_row f n) ns

  without_later : (f : Farm) (o : Option ℕ) → without (at_moment f moment) o ≡ at_moment (without f o) moment
  without_later f None = refl
  without_later f (Some depend) = refl

  after_later : (f : Farm) (w : Follow) → after_follow (at_moment f moment) w ≡ at_moment (after_follow f w) moment
  after_later f w =
      let rows = ap (λ (g : Farm). without g w.dropped) (all_later f w.depends) ∙ without_later (with_all f w.depends) w.dropped in
      ap (λ (g : Farm). record (with_met g) { slots = slots_after f.slots w }) rows
      ∙ ap (λ (g : Farm). record g { slots = slots_after f.slots w }) (met_later (without (with_all f w.depends) w.dropped))

  roomy_later : (f : Farm) (n : NewDepend) → IsRoomy f n → IsRoomy (at_moment f moment) n
  unfolding groups_of
  roomy_later f n r =
      record { number_left = r.number_left; row_left = r.row_left; groups_left = r.groups_left; groups_are = r.groups_are; each = r.each }

  room_later : (f : Farm) (ns : List NewDepend) → AreRoomy f ns → AreRoomy (at_moment f moment) ns
  room_later f [] r = tt
  room_later f (n ∷ ns) r = (roomy_later f n r.0, room_later (with_row f n) ns r.1)

  drop_later : (f : Farm) (o : Option ℕ) → IsDropThere f o → IsDropThere (at_moment f moment) o
  drop_later f None there = tt
  drop_later f (Some depend) there = there

  fits_later : (old f : Farm) (w : Follow) → FollowFits old f w → FollowFits old (at_moment f moment) w
  fits_later old f w fits =
      record {
        groups_stay = λ i d at unmet. groups_later f d ∙ fits.groups_stay i d at unmet;
        one_kind = fits.one_kind;
        room = room_later f w.depends fits.room;
        drop_there = drop_later f w.dropped fits.drop_there;
        done_differ = fits.done_differ;
        undone = fits.undone;
        done_are = fits.done_are;
        opened_movable = fits.opened_movable;
        blocked_movable = fits.blocked_movable;
      }

  follows_later : (old f : Farm) (act : Act) (w : Follow) → Follows old f act w → Follows old (at_moment f moment) act w
  follows_later old f act w follows =
      record {
        accepted = follows.accepted;
        fits = fits_later old f w follows.fits;
        unreserved = follows.unreserved;
        farm = after_later f w ∙ (ap (λ (g : Farm). at_moment g moment) follows.farm ∙ sym (followed_later f act));
        counts = follows.counts;
      }

  pub prepares_later : (old f : Farm) (act : Act) (result : Result Follow FarmFault) → PreparesFollow old f act result → PreparesFollow old (at_moment f moment) act result
  prepares_later old f act (Ok w) follows = follows_later old f act w follows
  prepares_later old f act (Err (Refused why)) refused = refused
  prepares_later old f act (Err NoMemory) none = tt

-- ---- acts that depends follow

module _ (f : Farm) (e : Entry) (change : Change) (made : Makes f e change) where
  abbrev moment : ℕ
  moment = moment_of f e.moment

  made_by : (act : Act) → e.act ≡ act → after_change f change ≡ after_act (at_moment f moment) moment act
  made_by act is = made.farm ∙ ap (after_act (at_moment f moment) moment) is

  placed_later : (spec : JobSpec) (o : Option ℕ) → after_submit (at_moment f moment) spec o ≡ at_moment (after_submit f spec o) moment
  placed_later spec None = refl
  placed_later spec (Some show) = refl

  as_made : (act : Act) (g : Farm) (result : Result Follow FarmFault) → e.act ≡ act → after_change f change ≡ at_moment g moment → PreparesFollow f g act result → PreparesFollow f (after_change f change) e.act result
  as_made act g result is later prepares =
      subst (λ (a : Act). PreparesFollow f (after_change f change) a result) (sym is)
      (subst (λ (h : Farm). PreparesFollow f h act result) (sym later) (prepares_later moment f g act result prepares))

  -- a job that is placed
  pub submit_prepared : (spec : JobSpec) (result : Result Follow FarmFault) → e.act ≡ Submit spec → PreparesFollow f (after_submit f spec (show_named f spec.show)) (Submit spec) result
      → PreparesFollow f (after_change f change) e.act result
  submit_prepared spec result is = as_made (Submit spec) (after_submit f spec (show_named f spec.show)) result is (made_by (Submit spec) is ∙ placed_later spec (show_named f spec.show))

  -- a depend that comes
  pub depend_prepared : (spec : DependSpec) (result : Result Follow FarmFault) → e.act ≡ AddDepend spec → PreparesFollow f f (AddDepend spec) result → PreparesFollow f (after_change f change) e.act result
  depend_prepared spec result is = as_made (AddDepend spec) f result is (made_by (AddDepend spec) is)

  -- a depend that is dropped
  pub drop_prepared : (depend : ℕ) (result : Result Follow FarmFault) → e.act ≡ DropDepend depend → PreparesFollow f f (DropDepend depend) result → PreparesFollow f (after_change f change) e.act result
  drop_prepared depend result is = as_made (DropDepend depend) f result is (made_by (DropDepend depend) is)
