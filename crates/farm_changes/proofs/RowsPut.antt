-- The changes of rows that a change comes to make the rows of the farm after it.
use Rattle.std.proofs.Common.{◌≡◌, ◌≢◌, ◌⊎◌, inl, inr, ℕ, zero, suc, ◌+◌, ◌≤◌, ◌<◌, ◌==◌, ◌&&◌, Bool, true, false, not, cond, eqb, ltb, List, [], ◌∷◌, ◌++◌, map, filter, length, Option, None, Some, Ok, Err, option_map, refl, sym, ap, subst, ◌∙◌, arith, append_assoc}
use Rattle.std.specs.Prelude.{All, bytes_eq}
use Rattle.std.specs.List.{find, slice_get, slice_set}
use Rattle.std.proofs.lemmas.Bool.{eq-eqb, eqb-true, ltb-true, ne_eqb, false≢true}
use Rattle.std.proofs.lemmas.List.{append-nil}
use Rattle.std.proofs.lemmas.List.Elements.{All-head, All-tail}
use Rattle.farm_types.specs.declared.boot.BootLine.{BootLine}
use Rattle.farm_types.specs.declared.depend.DependRow.{DependRow}
use Rattle.farm_types.specs.declared.depend.MetRow.{MetRow}
use Rattle.farm_types.specs.declared.job.JobSpec.{JobSpec}
use Rattle.farm_types.specs.declared.job.LayerSpec.{LayerSpec}
use Rattle.farm_types.specs.declared.rows.HostRow.{HostRow}
use Rattle.farm_types.specs.declared.rows.JobRow.{JobRow}
use Rattle.farm_types.specs.declared.rows.LayerRow.{LayerRow}
use Rattle.farm_types.specs.declared.slot_row.Frame.{Frame}
use Rattle.farm_types.specs.declared.slot_row.SlotRow.{SlotRow}
use Rattle.farm_types.specs.declared.limits.TheConstants.{LAST_BOOT}
use Rattle.farm_types.specs.Farm.{Farm, changed_at, changed_by, host_from, job_at, layer_at}
use Rattle.farm_types.specs.Hosts.{booted, booted_at, booted_row, is_same_life, new_host}
use Rattle.farm_types.specs.Jobs.{frames_in, frames_of, is_finished_named, job_row, layer_row, layer_rows, limit_in, place_frames, with_job, without_finished}
use Rattle.farm_types.specs.Operators.{paused_row}
use Rattle.farm_types.specs.Step.{at_moment, lists_of, with_lists}
use Rattle.farm_types.proofs.Changed.{changed_at_is, changed_at_other, changed_at_same, length-changed_at, places}
use Rattle.farm_types.proofs.ChangedLists.{changed_at_suc}
use Rattle.farm_types.proofs.Lists.{found_is, slice_get_below}
use Rattle.host_book.specs.Book.{alloc_of, plan_at, plan_by, plan_of}
use Rattle.host_book.specs.Life.{with_life}
use Rattle.host_book.specs.declared.boots.BootPlan.{BootPlan}
use Rattle.host_book.specs.declared.boots.BootPlan.TheVariants.{Again, Same}
use Rattle.host_book.specs.declared.boots.HostRefusal.TheVariants.{BootsSpent, OtherAlloc}
use Rattle.host_book.specs.declared.life.HostLife.{HostLife}
use Rattle.job_book.specs.Book.{KeepsFrame, placing_of, with_pause, without_job}
use Rattle.job_book.specs.declared.placement.placing.Placing.{Placing}
use Rattle.farm_books.specs.Install.{IsPlacement}
use Rattle.farm_draft.specs.Rows.{AreInstallable, put_lives, put_slots}
use Rattle.farm_draft.specs.declared.slot_change.SlotChange.{SlotChange}
use Rattle.farm_rows.specs.declared.farm_row.FarmRow.TheVariants as row
use Rattle.farm_rows.specs.declared.row_change.RowChange.{RowChange}
use Rattle.farm_rows.specs.declared.row_change.RowChange.TheVariants as change
use Rattle.farm_rows.specs.Changes.{MakesBookRows, MakesRows, beside}
use Rattle.farm_rows.proofs.MadeLists.{find-not_last, makes_counters, makes_host, makes_job, makes_job_gone, makes_new_alloc, makes_new_host, makes_new_job, makes_new_layer, makes_new_show, makes_no_job, makes_slot, makes_sub}
use Rattle.farm_rows.proofs.MadeRows.{makes_then}
use Rattle.farm_changes.specs.Change.{after_change, with_more, with_rows}
use Rattle.farm_changes.specs.RowChanges.{HasBoots, HasBootsLeft, IsLeft, Leaves, Places, boot_put, changes_of, frames_put, job_put, last_life, layers_put, left_put, life_over, life_put, lives_put, more_put, paused_put, reboot_put, slot_put}
use Rattle.farm_changes.specs.declared.change.Change.{Change}
use Rattle.farm_changes.specs.declared.change.More.{More}
use Rattle.farm_changes.specs.declared.change.More.TheVariants as more
use Rattle.farm_changes.proofs.LimitsSet.{SetsLimit, makes_limit}
use Rattle.farm_changes.proofs.FramesPut.{frames_put-slots, lowest_free-slots, makes_frames}

-- ---- lives of hosts

-- a life is put over another one
module _ (hosts : List HostRow) (host : ℕ) (l : HostLife) where
  life_twice : (e : ℕ × HostLife) → e.0 ≡ host → (o : Option HostRow) → slice_get hosts host ≡ o → life_put e (slice_get (changed_at hosts host (with_life l)) host) ≡ life_put e (slice_get hosts host)
  life_twice e same None at = ap (λ (hs : List HostRow). life_put e (slice_get hs host)) (ap (changed_by hosts host (with_life l)) at)
  life_twice e same (Some r) at = ap (life_put e) (changed_at_same hosts host (with_life l) r at) ∙ sym (ap (life_put e) at)

  life_put-life : (e : ℕ × HostLife) → life_put e (slice_get (changed_at hosts host (with_life l)) e.0) ≡ life_put e (slice_get hosts e.0)
  life_put-life e = by (places e.0 host)
    where
      by : (e.0 ≡ host) ⊎ (e.0 ≢ host) → life_put e (slice_get (changed_at hosts host (with_life l)) e.0) ≡ life_put e (slice_get hosts e.0)
      by (inl same) =
          ap (λ (n : ℕ). life_put e (slice_get (changed_at hosts host (with_life l)) n)) same ∙ life_twice e same (slice_get hosts host) refl ∙ sym (ap (λ (n : ℕ). life_put e (slice_get hosts n)) same)
      by (inr apart) = ap (life_put e) (changed_at_other hosts host e.0 (with_life l) apart)

  lives_put-life : (es : List (ℕ × HostLife)) → lives_put (changed_at hosts host (with_life l)) es ≡ lives_put hosts es
  lives_put-life [] = refl
  lives_put-life (e ∷ es) = ap (λ (cs : List RowChange). cs ++ lives_put (changed_at hosts host (with_life l)) es) (life_put-life e) ∙ ap (λ (cs : List RowChange). life_put e (slice_get hosts e.0) ++ cs) (lives_put-life es)

makes_life : (f : Farm) (e : ℕ × HostLife) (r : HostRow) → slice_get f.hosts e.0 ≡ Some r → MakesRows f (record f { hosts = changed_at f.hosts e.0 (with_life e.1) }) (life_put e (slice_get f.hosts e.0))
makes_life f e r at =
    subst (λ (hs : List HostRow). MakesRows f (record f { hosts = hs }) (life_put e (slice_get f.hosts e.0))) (sym (changed_at_is f.hosts e.0 (with_life e.1) r at))
    (subst (λ (o : Option HostRow). MakesRows f (record f { hosts = slice_set f.hosts e.0 (with_life e.1 r) }) (life_put e o)) (sym at) (makes_host f e.0 (with_life e.1 r) r at))

pub makes_lives : (es : List (ℕ × HostLife)) (f : Farm) → All (λ (e : ℕ × HostLife). e.0 < length f.hosts) es → MakesRows f (record f { hosts = put_lives f.hosts es }) (lives_put f.hosts es)
makes_lives [] f there = λ k named. refl
makes_lives (e ∷ es) f there =
    let changed = changed_at f.hosts e.0 (with_life e.1) in
    let here = slice_get_below f.hosts e.0 (All-head (λ (e : ℕ × HostLife). e.0 < length f.hosts) e es there) in
    let long : length changed ≡ length f.hosts = length-changed_at f.hosts e.0 (with_life e.1) in
    let others = subst (λ (n : ℕ). All (λ (e : ℕ × HostLife). e.0 < n) es) (sym long) (All-tail (λ (e : ℕ × HostLife). e.0 < length f.hosts) e es there) in
    let after = record f { hosts = put_lives changed es } in
    makes_then f (record f { hosts = changed }) after (life_put e (slice_get f.hosts e.0)) (lives_put f.hosts es) (makes_life f e here.0 here.1)
    (subst (MakesRows (record f { hosts = changed }) after) (lives_put-life f.hosts e.0 e.1 es) (makes_lives es (record f { hosts = changed }) others))

-- ---- rows of slots

there_is : (o : Option SlotRow) (r : SlotRow) → KeepsFrame o r → (s : SlotRow) × (o ≡ Some s)
there_is None r keeps = absurd keeps
there_is (Some s) r keeps = (s, refl)

pub makes_slots : (cs : List SlotChange) (f : Farm) → AreInstallable f.subs f.slots cs → MakesRows f (record f { slots = put_slots f.slots cs }) (map slot_put cs)
makes_slots [] f ready = λ k named. refl
makes_slots (c ∷ cs) f ready =
    let here = there_is (slice_get f.slots c.slot) c.row ready.0.keeps in
    let changed = record f { slots = slice_set f.slots c.slot c.row } in
    makes_then f changed (record f { slots = put_slots (slice_set f.slots c.slot c.row) cs }) (slot_put c ∷ []) (map slot_put cs) (makes_slot f c.slot c.row here.0 here.1) (makes_slots cs changed ready.1)

-- ---- a host that boots

length-put_lives : (hosts : List HostRow) (es : List (ℕ × HostLife)) → length (put_lives hosts es) ≡ length hosts
length-put_lives hosts [] = refl
length-put_lives hosts (e ∷ es) = length-put_lives (changed_at hosts e.0 (with_life e.1)) es ∙ length-changed_at hosts e.0 (with_life e.1)

named_life : (place : ℕ) (name : List ℕ) (hosts : List HostRow) (i : ℕ) (l : HostLife) → host_from place name (changed_at hosts i (with_life l)) ≡ host_from place name hosts
named_life place name [] i l = refl
named_life place name (h ∷ hs) zero l = refl
named_life place name (h ∷ hs) (suc i) l =
    ap (host_from place name) (changed_at_suc h hs i (with_life l)) ∙ ap (cond (bytes_eq h.name name) (Some place)) (named_life (place + 1) name hs i l)

named_lives : (name : List ℕ) (hosts : List HostRow) (es : List (ℕ × HostLife)) → host_from 0 name (put_lives hosts es) ≡ host_from 0 name hosts
named_lives name hosts [] = refl
named_lives name hosts (e ∷ es) = named_lives name (changed_at hosts e.0 (with_life e.1)) es ∙ named_life 0 name hosts e.0 e.1

over_twice : (l : HostLife) (life : Option HostLife) (o : Option HostRow) → option_map (with_life l) (option_map (life_over life) o) ≡ option_map (life_over (Some l)) o
over_twice l life None = refl
over_twice l None (Some r) = refl
over_twice l (Some k) (Some r) = refl

life_here : (hosts : List HostRow) (host : ℕ) (l : HostLife) (o : Option HostRow) → slice_get hosts host ≡ o → slice_get (changed_at hosts host (with_life l)) host ≡ option_map (with_life l) (slice_get hosts host)
life_here hosts host l None at = ap (λ (hs : List HostRow). slice_get hs host) (ap (changed_by hosts host (with_life l)) at) ∙ at ∙ sym (ap (option_map (with_life l)) at)
life_here hosts host l (Some r) at = changed_at_same hosts host (with_life l) r at ∙ sym (ap (option_map (with_life l)) at)

module _ (host : ℕ) (base : Option HostRow) where
  lives_here : (es : List (ℕ × HostLife)) (hosts : List HostRow) (life : Option HostLife) → slice_get hosts host ≡ option_map (life_over life) base → slice_get (put_lives hosts es) host ≡ option_map (life_over (last_life host es life)) base
  lives_here [] hosts life at = at
  lives_here (e ∷ es) hosts life at = by (eqb e.0 host) refl (lives_here es (changed_at hosts e.0 (with_life e.1)))
    where
      by : (b : Bool) → eqb e.0 host ≡ b
          → ((life : Option HostLife) → slice_get (changed_at hosts e.0 (with_life e.1)) host ≡ option_map (life_over life) base → slice_get (put_lives (changed_at hosts e.0 (with_life e.1)) es) host ≡ option_map (life_over (last_life host es life)) base)
          → slice_get (put_lives (changed_at hosts e.0 (with_life e.1)) es) host ≡ option_map (life_over (last_life host es (cond b (Some e.1) life))) base
      by true is later =
          let same : e.0 ≡ host = eqb-true e.0 host is in
          later (Some e.1)
          (ap (λ (n : ℕ). slice_get (changed_at hosts n (with_life e.1)) host) same ∙ life_here hosts host e.1 (slice_get hosts host) refl ∙ ap (option_map (with_life e.1)) at ∙ over_twice e.1 life base)
      by false is later = later life (changed_at_other hosts e.0 host (with_life e.1) (λ same. absurd (false≢true (sym is ∙ eq-eqb e.0 host (sym same)))) ∙ at)

over_none : (o : Option HostRow) → o ≡ option_map (life_over None) o
over_none None = refl
over_none (Some r) = refl

lives_at : (hosts : List HostRow) (es : List (ℕ × HostLife)) (host : ℕ) → slice_get (put_lives hosts es) host ≡ option_map (life_over (last_life host es None)) (slice_get hosts host)
lives_at hosts es host = lives_here host (slice_get hosts host) es hosts None (over_none (slice_get hosts host))

makes_reboot : (f : Farm) (line : BootLine) (moment host : ℕ) (o : Option HostRow) → slice_get f.hosts host ≡ o → MakesRows f (record f { hosts = changed_at f.hosts host (booted_row line moment) }) (reboot_put line moment host o)
makes_reboot f line moment host None at =
    subst (λ (hs : List HostRow). MakesRows f (record f { hosts = hs }) []) (sym (ap (changed_by f.hosts host (booted_row line moment)) at)) (λ k named. refl)
makes_reboot f line moment host (Some r) at =
    subst (λ (hs : List HostRow). MakesRows f (record f { hosts = hs }) (change.Put (row.Host host (booted_row line moment r)) ∷ [])) (sym (changed_at_is f.hosts host (booted_row line moment) r at))
    (makes_host f host (booted_row line moment r) r at)

-- where hosts got lives before
makes_boot_at : (f : Farm) (hosts : List HostRow) (es : List (ℕ × HostLife)) (line : BootLine) (alloc moment : ℕ) (o : Option ℕ) → f.hosts ≡ put_lives hosts es
    → MakesRows f (record f { hosts = booted_at f.hosts line alloc moment o }) (boot_put hosts es line alloc moment o)
makes_boot_at f hosts es line alloc moment None are =
    subst (λ (n : ℕ). MakesRows f (record f { hosts = f.hosts ++ new_host line alloc moment ∷ [] }) (change.Put (row.Host n (new_host line alloc moment)) ∷ [])) (ap length are ∙ length-put_lives hosts es)
    (makes_new_host f (new_host line alloc moment))
makes_boot_at f hosts es line alloc moment (Some host) are =
    makes_reboot f line moment host (option_map (life_over (last_life host es None)) (slice_get hosts host)) (ap (λ (hs : List HostRow). slice_get hs host) are ∙ lives_at hosts es host)

makes_boot : (f : Farm) (hosts : List HostRow) (es : List (ℕ × HostLife)) (line : BootLine) (alloc moment : ℕ) → f.hosts ≡ put_lives hosts es
    → MakesRows f (record f { hosts = booted f.hosts line alloc moment }) (boot_put hosts es line alloc moment (host_from 0 line.host hosts))
makes_boot f hosts es line alloc moment are =
    subst (λ (o : Option ℕ). MakesRows f (record f { hosts = booted_at f.hosts line alloc moment o }) (boot_put hosts es line alloc moment (host_from 0 line.host hosts)))
    (sym (ap (host_from 0 line.host) are ∙ named_lives line.host hosts es)) (makes_boot_at f hosts es line alloc moment (host_from 0 line.host hosts) are)

-- a boot that is planned has a boot number left
boots_by : (same of_it left : Bool) (row_alloc boot : ℕ) (alloc : ℕ) (planned : BootPlan) → same ≡ false → ltb boot LAST_BOOT ≡ left
    → cond of_it (cond same (Ok (Same boot alloc)) (cond left (Ok (Again (boot + 1) alloc)) (Err BootsSpent))) (Err (OtherAlloc row_alloc)) ≡ Ok planned → boot < LAST_BOOT
boots_by true of_it left row_alloc boot alloc planned other is ok = absurd (false≢true (sym other))
boots_by false true true row_alloc boot alloc planned other is ok = ltb-true boot LAST_BOOT is
boots_by false true false row_alloc boot alloc planned other is ok = absurd (cc)
boots_by false false left row_alloc boot alloc planned other is ok = absurd (cc)

row_has_boots : (line : BootLine) (alloc : ℕ) (life : Option HostLife) (o : Option HostRow) (hosts : List HostRow) (planned : BootPlan) → plan_by hosts line alloc (option_map (life_over life) o) ≡ Ok planned → HasBootsLeft line o
row_has_boots line alloc life None hosts planned ok = tt
row_has_boots line alloc None (Some r) hosts planned ok = λ other. boots_by (is_same_life line r) (eqb r.alloc alloc) (ltb r.boot LAST_BOOT) r.alloc r.boot alloc planned other refl ok
row_has_boots line alloc (Some l) (Some r) hosts planned ok = λ other. boots_by (is_same_life line r) (eqb r.alloc alloc) (ltb r.boot LAST_BOOT) r.alloc r.boot alloc planned other refl ok

pub has_boots : (hosts : List HostRow) (es : List (ℕ × HostLife)) (line : BootLine) (alloc : ℕ) (planned : BootPlan) → plan_of (put_lives hosts es) line alloc ≡ Ok planned → HasBoots hosts line (host_from 0 line.host hosts)
has_boots hosts es line alloc planned ok = by (host_from 0 line.host hosts) (sym (ap (plan_at (put_lives hosts es) line alloc) (named_lives line.host hosts es)) ∙ ok)
  where
    by : (o : Option ℕ) → plan_at (put_lives hosts es) line alloc o ≡ Ok planned → HasBoots hosts line o
    by None ok = tt
    by (Some host) ok = row_has_boots line alloc (last_life host es None) (slice_get hosts host) (put_lives hosts es) planned (sym (ap (plan_by (put_lives hosts es) line alloc) (lives_at hosts es host)) ∙ ok)

-- ---- a job is paused

makes_paused : (f : Farm) (job : ℕ) (paused : Bool) (o : Option JobRow) → job_at f job ≡ o → MakesRows f (record f { jobs = map (paused_row job paused) f.jobs }) (paused_put paused o)
makes_paused f job paused None at = makes_no_job f job (with_pause paused) (λ j. refl) at
makes_paused f job paused (Some j) at = makes_job f job (with_pause paused) (λ k. refl) j at (eqb-true j.job job (found_is (λ (k : JobRow). k.job == job) f.jobs j at))

-- ---- a job is placed

makes_left : (f : Farm) (left : Option ℕ) → MakesRows f (record f { jobs = without_job left f.jobs }) (left_put left)
makes_left f None = λ k named. refl
makes_left f (Some job) = makes_job_gone f job

find-filter_none : {X : Type 0} (test keeps : X → Bool) (xs : List X) → find test xs ≡ None → find test (filter keeps xs) ≡ None
find-filter_none test keeps [] none = refl
find-filter_none {X} test keeps (x ∷ xs) none = by (test x) (keeps x) refl (find-filter_none test keeps xs)
  where
    by : (b c : Bool) → test x ≡ b → (find test xs ≡ None → find test (filter keeps xs) ≡ None) → find test (cond c (x ∷ filter keeps xs) (filter keeps xs)) ≡ None
    by true c is later = let e : Some x ≡ None = sym (ap (λ (b : Bool). cond b (Some x) (find test xs)) is) ∙ none in absurd (cc)
    by false true is later = ap (λ (b : Bool). cond b (Some x) (find test (filter keeps xs))) is ∙ later (sym (ap (λ (b : Bool). cond b (Some x) (find test xs)) is) ∙ none)
    by false false is later = later (sym (ap (λ (b : Bool). cond b (Some x) (find test xs)) is) ∙ none)

makes_layers : (ls : List LayerSpec) (f : Farm) (job : ℕ) (layer_limits : List (Option ℕ)) (place : ℕ) → ((p : ℕ) → place ≤ p → layer_at f job p ≡ None) → MakesRows f (record f { layers = f.layers ++ layer_rows job layer_limits place ls }) (layers_put job layer_limits place ls)
makes_layers [] f job layer_limits place none = subst (λ (ls : List LayerRow). MakesRows f (record f { layers = ls }) []) (sym (append-nil f.layers)) (λ k named. refl)
makes_layers (l ∷ ls) f job layer_limits place none =
    let r = layer_row job place (limit_in layer_limits place) l in
    let more = record f { layers = f.layers ++ r ∷ [] } in
    makes_then f more (record f { layers = f.layers ++ r ∷ layer_rows job layer_limits (place + 1) ls }) (change.Put (row.Layer r) ∷ []) (layers_put job layer_limits (place + 1) ls) (makes_new_layer f r (none place (omega arith)))
    (subst (λ (rs : List LayerRow). MakesRows more (record f { layers = rs }) (layers_put job layer_limits (place + 1) ls)) (append_assoc f.layers (r ∷ []) (layer_rows job layer_limits (place + 1) ls))
    (makes_layers ls more job layer_limits (place + 1) (λ p le. find-not_last (λ (x : LayerRow). x.job == job && x.place == p) f.layers r (apart p le) ∙ none p (omega arith))))
  where
    apart : (p : ℕ) → place + 1 ≤ p → (eqb job job && eqb place p) ≡ false
    apart p le = ap (λ (b : Bool). eqb job job && b) (ne_eqb place p (λ e. absurd (omega (arith, e)))) ∙ none_of (eqb job job)
      where
        none_of : (b : Bool) → (b && false) ≡ false
        none_of true = refl
        none_of false = refl

makes_placed : (f : Farm) (left : Option ℕ) (show : ℕ) (layer_limits : List (Option ℕ)) (spec : JobSpec) → Leaves (lists_of f) left spec → MakesRows f (with_lists f (with_job (lists_of f) show layer_limits spec)) (job_put (lists_of f) left show layer_limits spec)
makes_placed f left show layer_limits spec leaves =
    let job = f.next_job in
    let r = job_row job show spec in
    let frames = frames_of job 0 spec.layers in
    let gone = record f { jobs = without_finished spec.name f.jobs } in
    let added = record gone { jobs = gone.jobs ++ r ∷ [] } in
    let layered = record added { layers = f.layers ++ layer_rows job layer_limits 0 spec.layers } in
    let placed = record layered { slots = place_frames f.slots frames } in
    let after = record placed { next_job = job + 1 } in
    makes_then f gone after (left_put left) (change.Put (row.Job r) ∷ (layers_put job layer_limits 0 spec.layers ++ frames_put 0 f.slots frames))
    (subst (λ (js : List JobRow). MakesRows f (record f { jobs = js }) (left_put left)) (sym leaves.without) (makes_left f left))
    (makes_then gone added after (change.Put (row.Job r) ∷ []) (layers_put job layer_limits 0 spec.layers ++ frames_put 0 f.slots frames)
    (makes_new_job gone r (find-filter_none (λ (j : JobRow). j.job == job) (λ (j : JobRow). not (is_finished_named spec.name j)) f.jobs leaves.no_job))
    (makes_then added layered after (layers_put job layer_limits 0 spec.layers) (frames_put 0 f.slots frames) (makes_layers spec.layers added job layer_limits 0 (λ p le. leaves.no_layer p))
    (λ k named. makes_counters placed (job + 1) placed.next_depend placed.next_finish placed.moment placed.recorded k named ∙ makes_frames layered frames k named)))

-- ---- the row that owns texts

makes_more : (f g : Farm) (es : List (ℕ × HostLife)) (moment : ℕ) (left : Option ℕ) (m : More) → g.shows ≡ f.shows → g.allocs ≡ f.allocs → g.hosts ≡ put_lives f.hosts es → g.jobs ≡ f.jobs
    → ((xs : List Frame) → frames_put 0 g.slots xs ≡ frames_put 0 f.slots xs) → g.next_job ≡ f.next_job → IsLeft g left m → SetsLimit g.limits m → MakesRows g (with_more g moment m) (more_put f es moment left m)
makes_more f g es moment left more.Nothing shows allocs hosts jobs slots next is sets = λ k named. refl
makes_more f g es moment left (more.Show name) shows allocs hosts jobs slots next is sets =
    subst (λ (n : ℕ). MakesRows g (record g { shows = g.shows ++ record { name = name } ∷ [] }) (change.Put (row.Show n (record { name = name })) ∷ [])) (ap length shows) (makes_new_show g (record { name = name }))
makes_more f g es moment left (more.Alloc facility tag) shows allocs hosts jobs slots next is sets =
    subst (λ (n : ℕ). MakesRows g (record g { allocs = g.allocs ++ record { facility = facility; tag = tag } ∷ [] }) (change.Put (row.Alloc n (record { facility = facility; tag = tag })) ∷ [])) (ap length allocs)
    (makes_new_alloc g (record { facility = facility; tag = tag }))
makes_more f g es moment left (more.Sub sub size burst) shows allocs hosts jobs slots next is sets = makes_sub g (record { sub = sub; size = size; burst = burst })
makes_more f g es moment left (more.Limit planned name most) shows allocs hosts jobs slots next is sets = makes_limit g name most planned sets
makes_more f g es moment left (more.Boot planned line) shows allocs hosts jobs slots next is sets = makes_boot g f.hosts es line (alloc_of planned) moment hosts
makes_more f g es moment left (more.Paused job paused) shows allocs hosts jobs slots next is sets =
    subst (λ (js : List JobRow). MakesRows g (record g { jobs = map (paused_row job paused) g.jobs }) (paused_put paused (find (λ (j : JobRow). j.job == job) js))) jobs (makes_paused g job paused (job_at g job) refl)
makes_more f g es moment left (more.Job placing spec) shows allocs hosts jobs slots next is sets =
    subst (λ (n : ℕ). MakesRows g (with_lists g (with_job (lists_of g) placing.show placing.limits spec))
    (left_put left ++ (change.Put (row.Job (job_row n placing.show spec)) ∷ (layers_put n placing.limits 0 spec.layers ++ frames_put 0 f.slots (frames_of n 0 spec.layers))))) next
    (subst (λ (cs : List RowChange). MakesRows g (with_lists g (with_job (lists_of g) placing.show placing.limits spec))
    (left_put left ++ (change.Put (row.Job (job_row g.next_job placing.show spec)) ∷ (layers_put g.next_job placing.limits 0 spec.layers ++ cs)))) (slots (frames_of g.next_job 0 spec.layers)) (makes_placed g left placing.show placing.limits spec is))

-- ---- the whole change

is_left : (f : Farm) (c : Change) (left : Option ℕ) (m : More) → IsLeft f left m → IsLeft (with_rows f c) left m
is_left f c left more.Nothing is = tt
is_left f c left (more.Show name) is = tt
is_left f c left (more.Alloc facility tag) is = tt
is_left f c left (more.Sub sub size burst) is = tt
is_left f c left (more.Limit planned name most) is = tt
is_left f c left (more.Boot planned line) is = tt
is_left f c left (more.Paused job paused) is = tt
is_left f c left (more.Job placing spec) is = record { without = is.without; no_job = is.no_job; no_layer = is.no_layer }

is_left_beside : (f : Farm) (depends : List DependRow) (met : List MetRow) (next : ℕ) (left : Option ℕ) (m : More) → IsLeft f left m → IsLeft (beside f depends met next) left m
is_left_beside f depends met next left more.Nothing is = tt
is_left_beside f depends met next left (more.Show name) is = tt
is_left_beside f depends met next left (more.Alloc facility tag) is = tt
is_left_beside f depends met next left (more.Sub sub size burst) is = tt
is_left_beside f depends met next left (more.Limit planned name most) is = tt
is_left_beside f depends met next left (more.Boot planned line) is = tt
is_left_beside f depends met next left (more.Paused job paused) is = tt
is_left_beside f depends met next left (more.Job placing spec) is = is

makes_changes : (f : Farm) (c : Change) (left : Option ℕ) → All (λ (e : ℕ × HostLife). e.0 < length f.hosts) c.rows.hosts.items → AreInstallable f.subs f.slots c.rows.slots.items → IsLeft f left c.more → SetsLimit f.limits c.more
    → MakesRows f (after_change f c) (changes_of f c left)
makes_changes f c left hosts slots is sets =
    let lives = c.rows.hosts.items in
    let rows = c.rows.slots.items in
    let later = at_moment f c.moment in
    let lived = record later { hosts = put_lives f.hosts lives } in
    let rest = more_put f lives c.moment left c.more in
    makes_then f later (after_change f c) [] (changes_of f c left) (makes_counters f f.next_job f.next_depend f.next_finish c.moment true)
    (makes_then later lived (after_change f c) (lives_put f.hosts lives) (map slot_put rows ++ rest) (makes_lives lives later hosts)
    (makes_then lived (with_rows f c) (after_change f c) (map slot_put rows) rest (makes_slots rows lived slots)
    (makes_more f (with_rows f c) lives c.moment left c.more refl refl refl refl (λ xs. frames_put-slots f.subs f.slots rows xs slots) refl (is_left f c left c.more is) sets)))

with_more_beside : (f : Farm) (depends : List DependRow) (met : List MetRow) (next moment : ℕ) (m : More) → with_more (beside f depends met next) moment m ≡ beside (with_more f moment m) depends met next
with_more_beside f depends met next moment more.Nothing = refl
with_more_beside f depends met next moment (more.Show name) = refl
with_more_beside f depends met next moment (more.Alloc facility tag) = refl
with_more_beside f depends met next moment (more.Sub sub size burst) = refl
with_more_beside f depends met next moment (more.Limit planned name most) = refl
with_more_beside f depends met next moment (more.Boot planned line) = refl
with_more_beside f depends met next moment (more.Paused job paused) = refl
with_more_beside f depends met next moment (more.Job placing spec) = refl

changes_beside : (f : Farm) (depends : List DependRow) (met : List MetRow) (next : ℕ) (c : Change) (left : Option ℕ) → more_put (beside f depends met next) c.rows.hosts.items c.moment left c.more ≡ more_put f c.rows.hosts.items c.moment left c.more
changes_beside f depends met next c left = by c.more
  where
    by : (m : More) → more_put (beside f depends met next) c.rows.hosts.items c.moment left m ≡ more_put f c.rows.hosts.items c.moment left m
    by more.Nothing = refl
    by (more.Show name) = refl
    by (more.Alloc facility tag) = refl
    by (more.Sub sub size burst) = refl
    by (more.Limit planned name most) = refl
    by (more.Boot planned line) = refl
    by (more.Paused job paused) = refl
    by (more.Job placing spec) = refl

-- the changes make the rows of the farm after the change, whatever the depends are
pub makes_books : (f : Farm) (c : Change) (left : Option ℕ) (cs : List RowChange) → All (λ (e : ℕ × HostLife). e.0 < length f.hosts) c.rows.hosts.items → AreInstallable f.subs f.slots c.rows.slots.items → IsLeft f left c.more
    → SetsLimit f.limits c.more → cs ≡ changes_of f c left → MakesBookRows f (after_change f c) cs
makes_books f c left cs hosts slots is sets are depends met next =
    let other = beside f depends met next in
    subst (λ (g : Farm). MakesRows other g cs) (with_more_beside (with_rows f c) depends met next c.moment c.more)
    (subst (MakesRows other (after_change other c))
    (ap (λ (ds : List RowChange). lives_put f.hosts c.rows.hosts.items ++ (map slot_put c.rows.slots.items ++ ds)) (changes_beside f depends met next c left) ∙ sym are)
    (makes_changes other c left hosts slots (is_left_beside f depends met next left c.more is) sets))

-- where the books place the job
pub places_job : (f : Farm) (c : Change) (placing : Placing) (spec : JobSpec) → AreInstallable f.subs f.slots c.rows.slots.items → IsPlacement (with_rows f c) placing spec → Places (lists_of f) placing spec
places_job f c placing spec slots is =
    record {
      limits = is.limits;
      placed = is.placed ∙ ap (λ (ns : List ℕ). record (placing_of (lists_of f) placing.show placing.limits spec) { slots = ns }) (lowest_free-slots f.subs f.slots c.rows.slots.items (frames_in spec.layers) slots);
    }

-- three lists of changes, one after the other
pub all_put : (lives slots rest none first second last : List RowChange) → none ≡ [] → first ≡ none ++ lives → second ≡ first ++ slots → last ≡ second ++ rest → last ≡ lives ++ (slots ++ rest)
all_put lives slots rest none first second last empty one two three =
    three ∙ ap (λ (cs : List RowChange). cs ++ rest) (two ∙ ap (λ (cs : List RowChange). cs ++ slots) (one ∙ ap (λ (cs : List RowChange). cs ++ lives) empty)) ∙ append_assoc lives slots rest
