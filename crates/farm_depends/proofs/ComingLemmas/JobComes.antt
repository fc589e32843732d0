-- A job is placed with its depends: what follows makes the farm after it.
use Rattle.std.proofs.Common.{◌≡◌, ℕ, Bool, true, false, eqb, ◌&&◌, List, [], ◌∷◌, ◌++◌, Option, Some, None, refl, ap, sym, ◌∙◌, arith, ◌⊎◌, inl, inr}
use Rattle.std.specs.Prelude.{nat_eq}
use Rattle.std.specs.List.{AllByRecursion, IsDistinct, slice_get}
use Rattle.std.proofs.lemmas.Bool.{eq-eqb, false≢true, or_cases, or_left}
use Rattle.std.proofs.lemmas.List.Elements.{recursion_from_All}
use Rattle.std.proofs.lemmas.List.Folds.{list_any-append}
use Rattle.std.proofs.lemmas.Option.{same_Some}
use Rattle.farm_types.specs.declared.depend.DependRow.{DependRow}
use Rattle.farm_types.specs.declared.depend.DependSpec.{DependSpec}
use Rattle.farm_types.specs.declared.entry.Act.TheVariants as act
use Rattle.farm_types.specs.declared.job.JobSpec.{JobSpec}
use Rattle.farm_types.specs.declared.slot_row.Frame.{Frame}
use Rattle.farm_types.specs.declared.slot_row.SlotRow.{SlotRow}
use Rattle.farm_types.specs.Booking.{is_waiting}
use Rattle.farm_types.specs.DependActs.{add_depend, add_depends, depend_refusal, depends_refusal, new_depend, new_groups, number_of, pending_named, with_depends}
use Rattle.farm_types.specs.Depends.{groups_of}
use Rattle.farm_types.specs.Farm.{Farm, show_named}
use Rattle.farm_types.specs.Formed.{IsFormedJob, IsFormedOwn}
use Rattle.farm_types.specs.Kept.{IsKeptFarm, KeepsDepends, KeepsRows}
use Rattle.farm_types.specs.Settle.{kept_version, settle, with_blocked, with_met}
use Rattle.farm_types.specs.Step.{act_refusal, after_submit}
use Rattle.farm_law.proofs.KeptActs.{kept_act}
use Rattle.farm_law.proofs.KeptFollowed.{kept_added}
use Rattle.farm_law.proofs.KeptRuns.{neither}
use Rattle.depend_law.proofs.Accepted.{accepted}
use Rattle.depend_law.proofs.Among.{in_from_any}
use Rattle.depend_law.proofs.NewJob.{groups_kept, submit_keeps}
use Rattle.depend_law.proofs.Placed.{Holds, HoldsOf}
use Rattle.depend_law.proofs.Turns.{on_frame}
use Rattle.depend_law.proofs.Waiters.{depend_holds}
use Rattle.farm_depends.specs.Coming.{all_unmet_waiters, follow_placed, is_unmet, unmet_waiters}
use Rattle.farm_depends.specs.Follow.{after_follow, all_coming, is_listed, put_blocked, with_all}
use Rattle.farm_depends.proofs.ComingLemmas.Blocking.{came_blocked}
use Rattle.farm_depends.proofs.ComingLemmas.DependComes.{own_coming, waiters_among}
use Rattle.farm_depends.proofs.ComingLemmas.OpenWith.{AreOwn, waiters_in}
use Rattle.farm_depends.proofs.ComingLemmas.OwnFrames.{named_next, own_waits}

-- ---- depends in turn

-- another depend leaves who waits by one
waiters_stay : (f : Farm) (before : DependSpec) (spec : DependSpec) → unmet_waiters (add_depend f before) spec ≡ unmet_waiters f spec
unfolding groups_of
waiters_stay f before spec = refl

all_stay : (f : Farm) (before : DependSpec) (specs : List DependSpec) → all_unmet_waiters (add_depend f before) specs ≡ all_unmet_waiters f specs
all_stay f before [] = refl
all_stay f before (spec ∷ specs) = λ i. waiters_stay f before spec i ++ all_stay f before specs i

all_waiters_in : (f : Farm) (specs : List DependSpec) → waiters_in f.slots (all_coming f specs) ≡ all_unmet_waiters f specs
all_waiters_in f [] = refl
all_waiters_in f (spec ∷ specs) =
    ap (λ (ws : List ℕ). unmet_waiters f spec ++ ws) (all_waiters_in (add_depend f spec) specs ∙ all_stay f spec specs)

all_own : (f : Farm) (specs : List DependSpec) → AreOwn f.layers f.slots (all_coming f specs)
all_own f [] = tt
all_own f (spec ∷ specs) = (own_coming f spec, all_own (add_depend f spec) specs)

all_added : (f : Farm) (specs : List DependSpec) → with_all f (all_coming f specs) ≡ add_depends f specs
all_added f [] = refl
all_added f (spec ∷ specs) = all_added (add_depend f spec) specs

module _ (name : List ℕ) (job : ℕ) where
  module _ (f : Farm) (rows : KeepsRows f) (named : number_of (pending_named f name) ≡ job) (waits : (slot : ℕ) (x : Frame) → Holds f.slots slot x → x.job ≡ job → is_waiting x.state ≡ true) where
    holder_waits : (i : ℕ) (s : SlotRow) (own : ℕ) → slice_get f.slots i ≡ Some s → own ≡ job → HoldsOf f.slots own i → on_frame is_waiting s.frame ≡ true
    holder_waits i s own at is held =
        let same : held.1.row ≡ s = same_Some held.1.row s (sym held.1.at ∙ at) in
        let frame_is : s.frame ≡ Some held.0 = ap (λ (row : SlotRow). row.frame) (sym same) ∙ held.1.frame_is in
        ap (on_frame is_waiting) frame_is ∙ waits i held.0 held.1 (held.2 ∙ is)

    -- who waits by a depend of the job's own is a frame of it
    first_waits : (spec : DependSpec) → IsFormedOwn name spec → depend_refusal f spec ≡ None → (i : ℕ) (s : SlotRow) → slice_get f.slots i ≡ Some s → is_listed (unmet_waiters f spec) i ≡ true → on_frame is_waiting s.frame ≡ true
    first_waits spec formed none i s at h =
        let taken = accepted f spec rows.jobs.jobs_rise none in
        let holds = depend_holds f rows (new_depend f spec) taken.waiter taken.target in
        let place = in_from_any i (unmet_waiters f spec) h in
        let among = (waiters_among (is_unmet f.slots) (new_groups f spec)).members place.0 i place.1 in
        holder_waits i s (new_depend f spec).waiter.job at (ap (λ (n : List ℕ). number_of (pending_named f n)) formed.own ∙ named) (holds.all.hold among.0 i among.1)

  all_wait : (f : Farm) → KeepsRows f → number_of (pending_named f name) ≡ job → ((slot : ℕ) (x : Frame) → Holds f.slots slot x → x.job ≡ job → is_waiting x.state ≡ true)
      → (specs : List DependSpec) → AllByRecursion (IsFormedOwn name) specs → depends_refusal f specs ≡ None → (i : ℕ) (s : SlotRow) → slice_get f.slots i ≡ Some s → is_listed (all_unmet_waiters f specs) i ≡ true → on_frame is_waiting s.frame ≡ true
  all_wait f rows named waits [] formed none i s at h = absurd (false≢true h)
  all_wait f rows named waits (spec ∷ specs) formed none i s at h =
      let both = neither (depend_refusal f spec) (depends_refusal (add_depend f spec) specs) none in
      let either = or_cases (is_listed (unmet_waiters f spec) i) (is_listed (all_unmet_waiters f specs) i) (sym (list_any-append (λ n. eqb n i) (unmet_waiters f spec) (all_unmet_waiters f specs)) ∙ h) in
      let later : is_listed (all_unmet_waiters f specs) i ≡ true → on_frame is_waiting s.frame ≡ true =
      λ l. all_wait (add_depend f spec) (kept_added f spec rows) named waits specs formed.1 both.1 i s at (ap (λ (ws : List ℕ). is_listed ws i) (all_stay f spec specs) ∙ l) in
      picked either (first_waits f rows named waits spec formed.0 both.0 i s at) later
    where
      picked : {A B C : Type 0} → A ⊎ B → (A → C) → (B → C) → C
      picked (inl a) first second = first a
      picked (inr b) first second = second b

-- ---- the farm after them

none_listed : (xs : List ℕ) → ((slot : ℕ) → is_listed xs slot ≡ false) → xs ≡ []
none_listed [] none = refl
none_listed (x ∷ xs) none = absurd (false≢true (sym (none x) ∙ or_left (eqb x x) (is_listed xs x) (eq-eqb x x refl)))

listed_if : (waits listed : Bool) → (listed ≡ true → waits ≡ true) → listed ≡ (waits && listed)
listed_if true listed each = refl
listed_if false true each = absurd (false≢true (each refl))
listed_if false false each = refl

module _ (p : Farm) (k : KeepsDepends p) (blocked : List ℕ) (differ : IsDistinct nat_eq blocked) where
  after_all : (specs : List DependSpec) → ((slot : ℕ) → is_listed blocked slot ≡ is_listed (all_unmet_waiters p specs) slot)
      → ((i : ℕ) (s : SlotRow) → slice_get p.slots i ≡ Some s → is_listed (all_unmet_waiters p specs) i ≡ true → on_frame is_waiting s.frame ≡ true)
      → after_follow p (follow_placed p specs blocked) ≡ with_depends p specs
  after_all [] listed wait =
      ap (λ (list : List ℕ). record (with_met p) { slots = put_blocked false list p.slots }) (none_listed blocked listed) ∙ k.met
  after_all (spec ∷ specs) listed wait =
      let all = spec ∷ specs in
      let ns = all_coming p all in
      came_blocked p k ns (all_own p all) false blocked differ
      (λ i s at.
      listed i
      ∙ (listed_if (on_frame is_waiting s.frame) (is_listed (all_unmet_waiters p all) i) (wait i s at)
      ∙ ap (λ (ws : List ℕ). on_frame is_waiting s.frame && is_listed ws i) (sym (all_waiters_in p all))))
      ∙ ap (λ (g : Farm). with_blocked kept_version (settle g)) (all_added p all)

module _ (f : Farm) (spec : JobSpec) (kept : IsKeptFarm f) (formed : IsFormedJob spec) (accepted : act_refusal f (act.Submit spec) ≡ None) where
  -- the farm with the job
  abbrev pub placed : Farm
  placed = after_submit f spec (show_named f spec.show)

  -- its rows are kept
  pub placed_rows : KeepsRows placed
  placed_rows = kept_act f f.moment (act.Submit spec) formed accepted tt (omega arith) kept.rows

  groups_by : (o : Option ℕ) (i : ℕ) (d : DependRow) → slice_get f.depends i ≡ Some d → d.met_all ≡ false → groups_of (after_submit f spec o) d ≡ groups_of f d
  groups_by None i d at unmet = refl
  groups_by (Some show) i d at unmet = groups_kept f kept.rows kept.depends spec show i d at unmet

  -- the groups of what isn't satisfied stay
  pub placed_groups : (i : ℕ) (d : DependRow) → slice_get f.depends i ≡ Some d → d.met_all ≡ false → groups_of placed d ≡ groups_of f d
  placed_groups i d at unmet = groups_by (show_named f spec.show) i d at unmet

  -- the frames that its depends block are those that aren't open then
  pub placed_farm : (blocked : List ℕ) → depends_refusal placed spec.depends ≡ None → IsDistinct nat_eq blocked → ((slot : ℕ) → is_listed blocked slot ≡ is_listed (all_unmet_waiters placed spec.depends) slot)
      → after_follow placed (follow_placed placed spec.depends blocked) ≡ with_depends placed spec.depends
  placed_farm blocked allowed differ listed =
      after_all placed (submit_keeps f kept.rows kept.depends spec (show_named f spec.show)) blocked differ spec.depends listed
      (all_wait spec.name f.next_job placed placed_rows (named_next f kept.rows spec (show_named f spec.show) accepted)
      (own_waits f kept.rows spec kept.depends (show_named f spec.show) accepted) spec.depends
      (recursion_from_All (IsFormedOwn spec.name) spec.depends formed.each_depend) allowed)
