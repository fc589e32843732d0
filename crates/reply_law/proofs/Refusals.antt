-- What the farm refuses names what the line names, or what is there, within its forms and limits.
use Rattle.std.proofs.Common.{◌≡◌, ℕ, ℤ, ◌+◌, ◌<◌, ◌≤◌, Bool, true, false, cond, eqb, leb, ltb, List, [], ◌∷◌, length, Option, Some, None, refl, sym, subst, ◌∙◌, arith}
use Rattle.std.specs.Cmp.Derive.{both_true}
use Rattle.std.specs.Prelude.{◌&&◌, ◌||◌, bytes_eq, is_some, option_map}
use Rattle.std.specs.List.{All, filter, find, list_all, list_any, slice_get}
use Rattle.std.specs.Option.{IfSome}
use Rattle.std.proofs.lemmas.Bool.{ltb-false, ltb-true}
use Rattle.std.proofs.lemmas.List.Elements.{All-head, All-tail}
use Rattle.std.proofs.lemmas.List.Folds.{list_all-append}
use Rattle.std.proofs.lemmas.List.Sums.{sum_by-cons}
use Rattle.farm_types.specs.declared.boot.BootLine.{BootLine}
use Rattle.farm_types.specs.declared.depend.DependRow.{DependRow}
use Rattle.farm_types.specs.declared.depend.DependSpec.{DependSpec}
use Rattle.farm_types.specs.declared.depend.Group.{Group}
use Rattle.farm_types.specs.declared.depend.Place.{Place}
use Rattle.farm_types.specs.declared.entry.Act.{Act}
use Rattle.farm_types.specs.declared.entry.Act.TheVariants as act
use Rattle.farm_types.specs.declared.entry.FramePlace.{FramePlace}
use Rattle.farm_types.specs.declared.entry.HeardAct.{HeardAct}
use Rattle.farm_types.specs.declared.job.JobSpec.{JobSpec}
use Rattle.farm_types.specs.declared.job.LayerSpec.{LayerSpec}
use Rattle.farm_types.specs.declared.limits.TheConstants.{LAST_BOOT, LAST_DEPEND, LAST_JOB, LAST_VERSION, MOST_ALLOCS, MOST_DEPENDS, MOST_GROUPS, MOST_HOSTS, MOST_LIMITS, MOST_SHOWS}
use Rattle.farm_types.specs.declared.refusal.Counted.{Counted}
use Rattle.farm_types.specs.declared.refusal.Counted.TheVariants as counted
use Rattle.farm_types.specs.declared.refusal.Refusal.{Refusal}
use Rattle.farm_types.specs.declared.refusal.Refusal.TheVariants.{Unknown, Finished, Exists, WrongBoot, Stale, FarmFull, Satisfied, WrongState, VersionSpent, SelfDepend, Started, Full}
use Rattle.farm_types.specs.declared.rows.AllocRow.{AllocRow}
use Rattle.farm_types.specs.declared.rows.HostRow.{HostRow}
use Rattle.farm_types.specs.declared.rows.JobRow.{JobRow}
use Rattle.farm_types.specs.declared.rows.LayerRow.{LayerRow}
use Rattle.farm_types.specs.declared.rows.LimitRow.{LimitRow}
use Rattle.farm_types.specs.declared.slot_row.Frame.{Frame}
use Rattle.farm_types.specs.declared.slot_row.SlotRow.{SlotRow}
use Rattle.farm_types.specs.declared.states.FrameState.{FrameState}
use Rattle.farm_types.specs.declared.sub_line.SubLine.{SubLine}
use Rattle.farm_types.specs.DependActs.{add_depend, depend_at, depend_refusal, depends_full, depends_refusal, drop_refusal, end_refusal, frame_name_at, frame_refusal, groups_refusal, has_number, job_missing, layer_name_of, layer_of_name, layer_refusal, name_of_frame, name_of_slot, new_groups, or_else, part_refusal, pending_named, place_refusal, runs_already, waits_for_itself}
use Rattle.farm_types.specs.Depends.{groups_left}
use Rattle.farm_types.specs.Farm.{Farm, alloc_name, alloc_named, has_facility, host_named, layer_at, layers_of, limit_from, limit_named, show_named}
use Rattle.farm_types.specs.Formed.{IsFormedAct, IsFormedDepend, IsFormedFrame, IsFormedHeard, IsFormedJob, IsFormedLayer, IsFormedOwn, is_layer_name}
use Rattle.farm_types.specs.Forms.{is_name_text, is_tag_text}
use Rattle.farm_types.specs.Hosts.{is_same_life}
use Rattle.farm_types.specs.Jobs.{free_among, free_in, is_finished_named, is_free, job_refusal, layer_rows, layers_refusal, repeated_name, room_refusal}
use Rattle.farm_types.specs.Kept.{KeepsRows, is_formed_alloc, is_formed_host, is_formed_layer}
use Rattle.farm_types.specs.Names.{frame_name}
use Rattle.farm_types.specs.Operators.{frame_act_refusal, frame_state_refusal, job_there_refusal, may_eat, may_kill, may_retry, place_of, slot_row_named, state_refusal, version_refusal}
use Rattle.farm_types.specs.Step.{act_refusal, after_submit, boot_at, boot_refusal, follow_refusal, full_refusal, host_refusal, life_refusal, limit_refusal, limits_of, limits_refusal, lists_of, name_of_alloc, name_refusal, new_refusal, row_refusal, sub_refusal, submit_refusal, unknown_limit}
use Rattle.farm_types.proofs.Lists.{and_both, list_all-at, slice_get_below}
use Rattle.farm_types.proofs.Utf8.{tag_utf8}
use Rattle.farm_lines.specs.FormedLines.{IsFormedRefusal, IsName, IsText}
use Rattle.farm_lines.specs.ReplyLines.{limit_of}
use Rattle.reply_law.specs.SaidTexts.{SaysText}
use Rattle.farm_law.proofs.FormedParts.{HostFormed, host_formed}
use Rattle.reply_law.proofs.Texts.{alloc_name_is_name, decimal_text, empty_text, frame_text, name_or_empty_text, name_text}

-- what is refused, if anything is, is within its forms and limits
abbrev pub Refuses : Option Refusal → Type 0
Refuses o = IfSome o IsFormedRefusal

one_of : (b : Bool) (x y : Option Refusal) → Refuses x → Refuses y → Refuses (cond b x y)
one_of true x y first second = first
one_of false x y first second = second

or_refuses : (a b : Option Refusal) → Refuses a → Refuses b → Refuses (or_else a b)
or_refuses None b first second = second
or_refuses (Some why) b first second = first

mapped_refuses : {X : Type 0} (why : X → Refusal) (o : Option X) → ((x : X) → IsFormedRefusal (why x)) → Refuses (option_map why o)
mapped_refuses why None each = tt
mapped_refuses why (Some x) each = each x

full_refuses : (limit count : ℕ) (what : Counted) → limit ≡ limit_of what → Refuses (full_refusal limit count what)
full_refuses limit count what is = one_of (ltb count limit) None (Some (Full limit what)) tt is

new_refuses : (name : List ℕ) (there : Bool) (full : Option Refusal) → IsName name → Refuses full → Refuses (new_refusal name there full)
new_refuses name there full named rest = one_of there (Some (Exists name)) full named rest

named_refuses : (name : List ℕ) (o : Option ℕ) → IsText name → Refuses (name_refusal name o)
named_refuses name None text = text
named_refuses name (Some n) text = tt

-- ---- shows, allocations and subscriptions

sub_refuses : (f : Farm) (line : SubLine) (o : Option ℕ) → IsName line.show → IsText line.alloc → Refuses (sub_refusal f line o)
sub_refuses f line None named text = name_text line.show named
sub_refuses f line (Some show) named text = named_refuses line.alloc (alloc_named f line.alloc) text

-- ---- limits

limit_refuses : (f : Farm) (o : Option ℕ) → Refuses (limit_refusal f o)
limit_refuses f None = full_refuses MOST_LIMITS (length f.limits) counted.Limits refl
limit_refuses f (Some limit) = tt

unknown_text : (limits : List LimitRow) (layers : List LayerSpec) → All IsFormedLayer layers → IfSome (unknown_limit limits layers) IsText
unknown_text limits [] each = tt
unknown_text limits (l ∷ ls) each =
    by (eqb (length l.limit) 0 || is_some (limit_from 0 l.limit limits)) (name_or_empty_text l.limit (All-head IsFormedLayer l ls each).limit) (unknown_text limits ls (All-tail IsFormedLayer l ls each))
  where
    by : (b : Bool) → IsText l.limit → IfSome (unknown_limit limits ls) IsText → IfSome (cond b (unknown_limit limits ls) (Some l.limit)) IsText
    by true text rest = rest
    by false text rest = text

-- ---- boots and reports

module _ (f : Farm) (kept : KeepsRows f) where
  -- the name of an allocation that is there
  pub alloc_there : (alloc : ℕ) → alloc < length f.allocs → IsName (name_of_alloc (slice_get f.allocs alloc))
  alloc_there alloc below =
      let row = slice_get_below f.allocs alloc below in
      let parts = and_both (is_tag_text row.0.facility) (is_tag_text row.0.tag) (list_all-at is_formed_alloc f.allocs alloc row.0 kept.allocs.formed row.1) in
      subst (λ (o : Option AllocRow). IsName (name_of_alloc o)) (sym row.1) (alloc_name_is_name row.0.facility row.0.tag parts.0 parts.1)

  pub alloc_of_host : (host : ℕ) (row : HostRow) → slice_get f.hosts host ≡ Some row → row.alloc < length f.allocs
  alloc_of_host host row at = ltb-true row.alloc (length f.allocs) (list_all-at (λ (r : HostRow). ltb r.alloc (length f.allocs)) f.hosts host row kept.hosts.allocated at)

  pub host_there : (host : ℕ) (row : HostRow) → slice_get f.hosts host ≡ Some row → HostFormed row
  host_there host row at = host_formed row (list_all-at is_formed_host f.hosts host row kept.hosts.formed at)

  life_refuses : (line : BootLine) (alloc host : ℕ) (o : Option HostRow) → slice_get f.hosts host ≡ o → Refuses (life_refusal f line alloc o)
  life_refuses line alloc host None at = tt
  life_refuses line alloc host (Some row) at =
      one_of (eqb row.alloc alloc) (cond (is_same_life line row) None (full_refusal LAST_BOOT row.boot counted.Boots)) (Some (Exists (name_of_alloc (slice_get f.allocs row.alloc))))
      (one_of (is_same_life line row) None (full_refusal LAST_BOOT row.boot counted.Boots) tt (full_refuses LAST_BOOT row.boot counted.Boots refl))
      (alloc_there row.alloc (alloc_of_host host row at))

  boot_at_refuses : (line : BootLine) (alloc : ℕ) (o : Option ℕ) → Refuses (boot_at f line alloc o)
  boot_at_refuses line alloc None = full_refuses MOST_HOSTS (length f.hosts) counted.Hosts refl
  boot_at_refuses line alloc (Some host) = life_refuses line alloc host (slice_get f.hosts host) refl

  boot_refuses : (line : BootLine) (o : Option ℕ) → IsText line.alloc → Refuses (boot_refusal f line o)
  boot_refuses line None text = text
  boot_refuses line (Some alloc) text = boot_at_refuses line alloc (host_named f line.host)

  row_refuses : (heard : HeardAct) (host : ℕ) (o : Option HostRow) → IsFormedHeard heard → slice_get f.hosts host ≡ o → Refuses (row_refusal heard.host heard.boot heard.seq o)
  row_refuses heard host None formed at = name_text heard.host formed.host
  row_refuses heard host (Some row) formed at =
      one_of (eqb row.boot heard.boot) (cond (ltb row.seq heard.seq) None (Some (Stale row.seq))) (Some (WrongBoot row.boot)) (by (ltb row.seq heard.seq) refl) (host_there host row at).boot
    where
      by : (b : Bool) → ltb row.seq heard.seq ≡ b → Refuses (cond b None (Some (Stale row.seq)))
      by true is = tt
      by false is = (omega (arith, ltb-false row.seq heard.seq is, formed.seq_within.0), (host_there host row at).seq)

  heard_refuses : (heard : HeardAct) (o : Option ℕ) → IsFormedHeard heard → Refuses (host_refusal f heard o)
  heard_refuses heard None formed = name_text heard.host formed.host
  heard_refuses heard (Some host) formed = row_refuses heard host (slice_get f.hosts host) formed refl

-- ---- submits

free_few : (slots : List SlotRow) → free_among slots ≤ length slots
free_few [] = omega arith
free_few (s ∷ ss) = omega (arith, sum_by-cons (λ (x : SlotRow). cond (is_free x) 1 0) s ss, at_most_one (is_free s), free_few ss)
  where
    at_most_one : (b : Bool) → cond b 1 0 ≤ 1
    at_most_one true = omega arith
    at_most_one false = omega arith

repeated_refuses : (before : List (List ℕ)) (layers : List LayerSpec) → All IsFormedLayer layers → IfSome (repeated_name before layers) IsName
repeated_refuses before [] each = tt
repeated_refuses before (l ∷ ls) each =
    by (list_any (λ name. bytes_eq l.name name) before) (All-head IsFormedLayer l ls each).name (repeated_refuses (l.name ∷ before) ls (All-tail IsFormedLayer l ls each))
  where
    by : (b : Bool) → IsName l.name → IfSome (repeated_name (l.name ∷ before) ls) IsName → IfSome (cond b (Some l.name) (repeated_name (l.name ∷ before) ls)) IsName
    by true named rest = named
    by false named rest = rest

module _ (f : Farm) (kept : KeepsRows f) where
  room_refuses : (spec : JobSpec) → Refuses (room_refusal (lists_of f) spec)
  room_refuses spec =
      one_of _ (Some (FarmFull (free_in f.slots))) _ (omega (arith, free_few f.slots, kept.jobs.slot_count)) (one_of (ltb LAST_JOB f.next_job) (Some (Full LAST_JOB counted.Jobs)) None refl tt)

  layers_refuses : (spec : JobSpec) (o : Option (List ℕ)) → IfSome o IsName → Refuses (layers_refusal (lists_of f) spec o)
  layers_refuses spec None named = room_refuses spec
  layers_refuses spec (Some name) named = named

  job_refuses_spec : (spec : JobSpec) → IsFormedJob spec → Refuses (job_refusal (lists_of f) spec)
  job_refuses_spec spec formed =
      one_of _ (Some (Exists spec.name)) (layers_refusal (lists_of f) spec (repeated_name [] spec.layers)) formed.name (layers_refuses spec (repeated_name [] spec.layers) (repeated_refuses [] spec.layers formed.each_layer))

  limits_refuses : (spec : JobSpec) (o : Option (List ℕ)) → IsFormedJob spec → IfSome o IsText → Refuses (limits_refusal f spec o)
  limits_refuses spec None formed text = job_refuses_spec spec formed
  limits_refuses spec (Some name) formed text = text

  submit_refuses : (spec : JobSpec) (o : Option ℕ) → IsFormedJob spec → Refuses (submit_refusal f spec o)
  submit_refuses spec None formed = name_text spec.show formed.show
  submit_refuses spec (Some show) formed =
      one_of (has_facility f spec.facility) (limits_refusal f spec (unknown_limit f.limits spec.layers)) (Some (Unknown spec.facility))
      (limits_refuses spec (unknown_limit f.limits spec.layers) formed (unknown_text f.limits spec.layers formed.each_layer))
      (tag_utf8 spec.facility formed.facility)

-- ---- jobs, layers and frames

abbrev is_named_layer : LayerRow → Bool
is_named_layer l = is_name_text l.name

-- each layer of the farm has a name of its form
abbrev pub HasNames : List LayerRow → Type 0
HasNames layers = list_all is_named_layer layers ≡ true

pub layer_named : (l : LayerRow) → is_formed_layer l ≡ true → IsName l.name
layer_named l formed = (and_both (is_name_text l.name) _ formed).0

pub kept_names : (layers : List LayerRow) → list_all is_formed_layer layers ≡ true → HasNames layers
kept_names [] all = refl
kept_names (l ∷ ls) all = let parts = and_both (is_formed_layer l) (list_all is_formed_layer ls) all in both_true (layer_named l parts.0) (kept_names ls parts.1)

pub missing_refuses : (f : Farm) (name : List ℕ) → IsName name → IsFormedRefusal (job_missing f name)
missing_refuses f name named = by (list_any (is_finished_named name) f.jobs)
  where
    by : (b : Bool) → IsFormedRefusal (cond b (Finished name) (Unknown name))
    by true = named
    by false = name_text name named

job_refuses : (f : Farm) (name : List ℕ) (o : Option JobRow) → IsName name → Refuses (job_there_refusal f name o)
job_refuses f name None named = missing_refuses f name named
job_refuses f name (Some j) named = tt

module _ (f : Farm) (names : HasNames f.layers) where
  frame_refuses : (l : LayerRow) (frame : Option ℤ) → IsName l.name → Refuses (frame_refusal l frame)
  frame_refuses l None named = tt
  frame_refuses l (Some number) named = one_of (has_number number l) None (Some (Unknown (frame_name number l.name))) tt (frame_text number l.name (name_text l.name named))

  layer_refuses : (name : List ℕ) (frame : Option ℤ) (o : Option LayerRow) → IsName name → IfSome o (λ l. IsName l.name) → Refuses (layer_refusal name frame o)
  layer_refuses name frame None named there = name_text name named
  layer_refuses name frame (Some l) named there = frame_refuses l frame there

  found_layer : (test : LayerRow → Bool) (ls : List LayerRow) → HasNames ls → IfSome (find test ls) (λ (l : LayerRow). IsName l.name)
  found_layer test [] all = tt
  found_layer test (l ∷ ls) all = let parts = and_both (is_named_layer l) (list_all is_named_layer ls) all in by (test l) parts.0 (found_layer test ls parts.1)
    where
      by : (b : Bool) → IsName l.name → IfSome (find test ls) (λ (k : LayerRow). IsName k.name) → IfSome (cond b (Some l) (find test ls)) (λ (k : LayerRow). IsName k.name)
      by true named rest = named
      by false named rest = rest

  own_names : (test : LayerRow → Bool) (ls : List LayerRow) → HasNames ls → HasNames (filter test ls)
  own_names test [] all = refl
  own_names test (l ∷ ls) all = let parts = and_both (is_named_layer l) (list_all is_named_layer ls) all in by (test l) parts.0 (own_names test ls parts.1)
    where
      by : (b : Bool) → IsName l.name → HasNames (filter test ls) → HasNames (cond b (l ∷ filter test ls) (filter test ls))
      by true named rest = both_true named rest
      by false named rest = rest

  part_refuses : (job : ℕ) (layer : Option (List ℕ)) (frame : Option ℤ) → is_layer_name layer ≡ true → Refuses (part_refusal f job layer frame)
  part_refuses job None frame named = tt
  part_refuses job (Some name) frame named =
      layer_refuses name frame (layer_of_name f job name) named (found_layer (λ (l : LayerRow). bytes_eq l.name name) (layers_of f.layers job) (own_names (λ (l : LayerRow). eqb l.job job) f.layers names))

  end_refuses : (p : Place) (o : Option JobRow) → IsName p.job → is_layer_name p.layer ≡ true → Refuses (end_refusal f p o)
  end_refuses p None named layered = missing_refuses f p.job named
  end_refuses p (Some j) named layered = part_refuses j.job p.layer p.frame layered

  place_refuses : (p : Place) → IsName p.job → is_layer_name p.layer ≡ true → Refuses (place_refusal f p)
  place_refuses p named layered = end_refuses p (pending_named f p.job) named layered

  -- the name of the frame in a slot
  pub layer_text : (o : Option LayerRow) → IfSome o (λ (l : LayerRow). IsName l.name) → IsText (layer_name_of o)
  layer_text None named = empty_text
  layer_text (Some l) named = name_text l.name named

  pub frame_named : (o : Option Frame) → IsText (name_of_frame f o)
  frame_named None = empty_text
  frame_named (Some x) = frame_text x.number (layer_name_of (layer_at f x.job x.layer)) (layer_text (layer_at f x.job x.layer) (found_layer (λ (l : LayerRow). eqb l.job x.job && eqb l.place x.layer) f.layers names))

  slot_named_text : (o : Option SlotRow) → IsText (name_of_slot f o)
  slot_named_text None = empty_text
  slot_named_text (Some s) = frame_named s.frame

  depends_full_refuses : (groups : ℕ) → Refuses (depends_full f groups)
  depends_full_refuses groups =
      let numbers = cond (ltb LAST_DEPEND f.next_depend) (Some (Full LAST_DEPEND counted.DependNumbers)) None in
      let more = cond (ltb MOST_GROUPS (groups_left f + groups)) (Some (Full MOST_GROUPS counted.Groups)) numbers in
      one_of (leb MOST_DEPENDS (length f.depends)) (Some (Full MOST_DEPENDS counted.Depends)) more refl
      (one_of (ltb MOST_GROUPS (groups_left f + groups)) (Some (Full MOST_GROUPS counted.Groups)) numbers refl
      (one_of (ltb LAST_DEPEND f.next_depend) (Some (Full LAST_DEPEND counted.DependNumbers)) None refl tt))

  groups_refuses : (groups : List Group) → Refuses (groups_refusal f groups)
  groups_refuses groups =
      or_refuses (option_map (λ slot. SelfDepend (frame_name_at f slot)) (waits_for_itself groups)) _
      (mapped_refuses (λ slot. SelfDepend (frame_name_at f slot)) (waits_for_itself groups) (λ slot. slot_named_text (slice_get f.slots slot)))
      (or_refuses (option_map (λ slot. Started (frame_name_at f slot)) (runs_already f.slots groups)) (depends_full f (length groups))
      (mapped_refuses (λ slot. Started (frame_name_at f slot)) (runs_already f.slots groups) (λ slot. slot_named_text (slice_get f.slots slot)))
      (depends_full_refuses (length groups)))

  depend_refuses : (spec : DependSpec) → IsFormedDepend spec → Refuses (depend_refusal f spec)
  unfolding depend_refusal
  depend_refuses spec formed =
      or_refuses (place_refusal f spec.waiter) _ (place_refuses spec.waiter formed.waiter.job formed.waiter.layer_name)
      (or_refuses (place_refusal f spec.target) (groups_refusal f (new_groups f spec)) (place_refuses spec.target formed.target.job formed.target.layer_name) (groups_refuses (new_groups f spec)))

depends_refuse : (f : Farm) (own : List ℕ) (specs : List DependSpec) → HasNames f.layers → All (IsFormedOwn own) specs → Refuses (depends_refusal f specs)
depends_refuse f own [] names each = tt
depends_refuse f own (spec ∷ specs) names each =
    or_refuses (depend_refusal f spec) (depends_refusal (add_depend f spec) specs) (depend_refuses f names spec (All-head (IsFormedOwn own) spec specs each).depend)
    (depends_refuse (add_depend f spec) own specs names (All-tail (IsFormedOwn own) spec specs each))

new_names : (job : ℕ) (limits : List (Option ℕ)) (place : ℕ) (layers : List LayerSpec) → All IsFormedLayer layers → HasNames (layer_rows job limits place layers)
new_names job limits place [] each = refl
new_names job limits place (l ∷ ls) each = both_true (All-head IsFormedLayer l ls each).name (new_names job limits (place + 1) ls (All-tail IsFormedLayer l ls each))

submitted_names : (f : Farm) (spec : JobSpec) (o : Option ℕ) → HasNames f.layers → IsFormedJob spec → HasNames (after_submit f spec o).layers
submitted_names f spec None names formed = names
submitted_names f spec (Some show) names formed =
    let limits = limits_of f.limits spec.layers in
    list_all-append is_named_layer f.layers (layer_rows f.next_job limits 0 spec.layers) ∙ both_true names (new_names f.next_job limits 0 spec.layers formed.each_layer)

dropped_refuses : (depend : ℕ) (o : Option DependRow) → Refuses (drop_refusal depend o)
dropped_refuses depend None = decimal_text depend
dropped_refuses depend (Some d) = one_of d.met_all (Some Satisfied) None tt tt

-- ---- what operators do to frames

state_refuses : (may : FrameState → Bool) (o : Option SlotRow) → Refuses (state_refusal may o)
state_refuses may None = tt
state_refuses may (Some s) = by s.frame
  where
    by : (o : Option Frame) → Refuses (frame_state_refusal may o)
    by None = tt
    by (Some x) = one_of (may x.state) None (Some (WrongState x.state)) tt tt

frame_act_refuses : (f : Farm) → HasNames f.layers → (may : FrameState → Bool) (p : FramePlace) → IsFormedFrame p → Refuses (frame_act_refusal may f p)
frame_act_refuses f names may p formed = or_refuses (place_refusal f (place_of p)) (state_refusal may (slot_row_named f p)) (place_refuses f names (place_of p) formed.job formed.layer) (state_refuses may (slot_row_named f p))

spent_refuses : (name : List ℕ) (o : Option SlotRow) → IsText name → Refuses (version_refusal name o)
spent_refuses name None text = tt
spent_refuses name (Some s) text = one_of (ltb s.version LAST_VERSION) None (Some (VersionSpent name)) tt text

-- ---- acts

act_refuses : (f : Farm) (does : Act) → KeepsRows f → HasNames f.layers → IsFormedAct does → SaysText does → Refuses (act_refusal f does)
act_refuses f act.Opened kept names formed text = tt
act_refuses f (act.Show name) kept names formed text = new_refuses name (is_some (show_named f name)) _ formed (full_refuses MOST_SHOWS (length f.shows) counted.Shows refl)
act_refuses f (act.Alloc facility tag) kept names formed text =
    new_refuses (alloc_name facility tag) (is_some (alloc_named f (alloc_name facility tag))) _ (alloc_name_is_name facility tag formed.0 formed.1) (full_refuses MOST_ALLOCS (length f.allocs) counted.Allocs refl)
act_refuses f (act.Sub line) kept names formed text = sub_refuses f line (show_named f line.show) formed.show text
act_refuses f (act.Limit name most) kept names formed text = limit_refuses f (limit_named f name)
act_refuses f (act.Boot line) kept names formed text = boot_refuses f kept line (alloc_named f line.alloc) text
act_refuses f (act.Heard heard) kept names formed text = heard_refuses f kept heard (host_named f heard.host) formed
act_refuses f (act.Submit spec) kept names formed text = submit_refuses f kept spec (show_named f spec.show) formed
act_refuses f (act.AddDepend spec) kept names formed text = tt
act_refuses f (act.DropDepend depend) kept names formed text = tt
act_refuses f (act.Pause job paused) kept names formed text = job_refuses f job (pending_named f job) formed
act_refuses f (act.KillJob job) kept names formed text = job_refuses f job (pending_named f job) formed
act_refuses f (act.KillFrame p) kept names formed text = frame_act_refuses f names may_kill p formed
act_refuses f (act.EatFrame p) kept names formed text = frame_act_refuses f names may_eat p formed
act_refuses f (act.RetryFrame p) kept names formed text =
    or_refuses (frame_act_refusal may_retry f p) _ (frame_act_refuses f names may_retry p formed) (spent_refuses (frame_name p.frame p.layer) (slot_row_named f p) (frame_text p.frame p.layer (name_text p.layer formed.layer)))
act_refuses f (act.Lock host lock) kept names formed text = named_refuses host (host_named f host) (name_text host formed)
act_refuses f act.Tick kept names formed text = tt
act_refuses f (act.Book slot host) kept names formed text = tt

follow_refuses : (f : Farm) (does : Act) → HasNames f.layers → IsFormedAct does → Refuses (follow_refusal f does)
follow_refuses f (act.Submit spec) names formed = depends_refuse (after_submit f spec (show_named f spec.show)) spec.name spec.depends (submitted_names f spec (show_named f spec.show) names formed) formed.each_depend
follow_refuses f (act.AddDepend spec) names formed = depend_refuses f names spec formed
follow_refuses f (act.DropDepend depend) names formed = dropped_refuses depend (depend_at f depend)
follow_refuses f other names formed = tt

-- what the farm refuses of an act
pub refused_formed : (f : Farm) (does : Act) → KeepsRows f → IsFormedAct does → SaysText does → Refuses (or_else (act_refusal f does) (follow_refusal f does))
refused_formed f does kept formed text =
    let names = kept_names f.layers kept.jobs.layers_formed in
    or_refuses (act_refusal f does) (follow_refusal f does) (act_refuses f does kept names formed text) (follow_refuses f does names formed)
