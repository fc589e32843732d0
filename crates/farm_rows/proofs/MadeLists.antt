-- The changes of rows that changes of a farm's lists come to: one for each kind of list.
use Rattle.std.proofs.Common.{◌≡◌, ◌≢◌, ℕ, zero, suc, ◌==◌, Bool, true, false, not, cond, eqb, ◌&&◌, List, [], ◌∷◌, ◌++◌, map, filter, length, ltb, Option, None, Some, option_map, refl, sym, ap, subst, ◌∙◌}
use Rattle.std.specs.Prelude.{option_and_then}
use Rattle.std.specs.List.{find, slice_get, slice_set}
use Rattle.std.specs.Option.{option_or}
use Rattle.std.proofs.lemmas.Bool.{eq-eqb, eqb-true, false≢true}
use Rattle.std.proofs.lemmas.List.Folds.{find-append}
use Rattle.farm_types.specs.declared.depend.DependRow.{DependRow}
use Rattle.farm_types.specs.declared.rows.AllocRow.{AllocRow}
use Rattle.farm_types.specs.declared.rows.HostRow.{HostRow}
use Rattle.farm_types.specs.declared.rows.JobRow.{JobRow}
use Rattle.farm_types.specs.declared.rows.LayerRow.{LayerRow}
use Rattle.farm_types.specs.declared.rows.ShowRow.{ShowRow}
use Rattle.farm_types.specs.declared.rows.SubRow.{SubRow}
use Rattle.farm_types.specs.declared.slot_row.SlotRow.{SlotRow}
use Rattle.farm_types.specs.Farm.{Farm, job_at, layer_at}
use Rattle.farm_types.specs.Subs.{with_sub}
use Rattle.farm_types.proofs.Changed.{slice_get-set_other, slice_get-set_same}
use Rattle.farm_rows.specs.declared.farm_row.FarmRow.TheVariants as row
use Rattle.farm_rows.specs.declared.row_key.RowKey.{RowKey}
use Rattle.farm_rows.specs.declared.row_key.RowKey.TheVariants as key
use Rattle.farm_rows.specs.declared.row_change.RowChange.TheVariants as change
use Rattle.farm_rows.specs.Changes.{MakesRows, is_head, is_key, row_at, slot_change, used_row}
use Rattle.farm_rows.specs.Rows.{frame_row, is_unused}
use Rattle.farm_rows.proofs.MadeRows.{makes_delete, makes_put}

apart : (a b : ℕ) → eqb a b ≡ false → b ≢ a
apart a b e same = absurd (false≢true (sym e ∙ eq-eqb a b (sym same)))

-- ---- what no row but the farm's own tells

pub makes_counters : (f : Farm) (jobs depends finishes moment : ℕ) (recorded : Bool)
    → MakesRows f (record f { next_job = jobs; next_depend = depends; next_finish = finishes; moment = moment; recorded = recorded }) []
makes_counters f jobs depends finishes moment recorded key.Head named = absurd (false≢true (sym named))
makes_counters f jobs depends finishes moment recorded other named = refl

-- ---- slots and hosts at their places

module _ (f : Farm) (slot : ℕ) (s : SlotRow) where
  abbrev with_slot : Farm
  with_slot = record f { slots = slice_set f.slots slot s }

  other_slots : (k : RowKey) → is_head k ≡ false → is_key (key.Frame slot) k ≡ false → row_at with_slot k ≡ row_at f k
  other_slots (key.Frame n) named e = ap (option_and_then (used_row n)) (slice_get-set_other f.slots slot n s (apart slot n e))
  other_slots k named e = refl

  slot_by : (old : SlotRow) → slice_get f.slots slot ≡ Some old → (b : Bool) → is_unused s ≡ b
      → MakesRows f with_slot (cond b (change.Delete (key.Frame slot)) (change.Put (row.Frame (frame_row slot s))) ∷ [])
  slot_by old there true e =
      makes_delete f with_slot (key.Frame slot)
      (ap (option_and_then (used_row slot)) (slice_get-set_same f.slots slot old s there) ∙ ap (λ (b : Bool). cond b None (Some (row.Frame (frame_row slot s)))) e) other_slots
  slot_by old there false e =
      makes_put f with_slot (row.Frame (frame_row slot s))
      (ap (option_and_then (used_row slot)) (slice_get-set_same f.slots slot old s there) ∙ ap (λ (b : Bool). cond b None (Some (row.Frame (frame_row slot s)))) e) other_slots

  -- a slot that is there gets another row
  pub makes_slot : (old : SlotRow) → slice_get f.slots slot ≡ Some old → MakesRows f (record f { slots = slice_set f.slots slot s }) (slot_change slot s ∷ [])
  makes_slot old there = slot_by old there (is_unused s) refl

module _ (f : Farm) (host : ℕ) (h : HostRow) where
  other_hosts : (k : RowKey) → is_head k ≡ false → is_key (key.Host host) k ≡ false → row_at (record f { hosts = slice_set f.hosts host h }) k ≡ row_at f k
  other_hosts (key.Host n) named e = ap (option_map (row.Host n)) (slice_get-set_other f.hosts host n h (apart host n e))
  other_hosts k named e = refl

  -- a host that is there gets another row
  pub makes_host : (old : HostRow) → slice_get f.hosts host ≡ Some old → MakesRows f (record f { hosts = slice_set f.hosts host h }) (change.Put (row.Host host h) ∷ [])
  makes_host old there =
      makes_put f (record f { hosts = slice_set f.hosts host h }) (row.Host host h) (ap (option_map (row.Host host)) (slice_get-set_same f.hosts host old h there)) other_hosts

-- ---- one more at the end, numbered by its place

pub slice_get-last : {X : Type 0} (xs : List X) (y : X) → slice_get (xs ++ y ∷ []) (length xs) ≡ Some y
slice_get-last [] y = refl
slice_get-last (x ∷ xs) y = slice_get-last xs y

pub slice_get-not_last : {X : Type 0} (xs : List X) (y : X) (n : ℕ) → n ≢ length xs → slice_get (xs ++ y ∷ []) n ≡ slice_get xs n
slice_get-not_last [] y zero other = absurd (other refl)
slice_get-not_last [] y (suc n) other = refl
slice_get-not_last (x ∷ xs) y zero other = refl
slice_get-not_last (x ∷ xs) y (suc n) other = slice_get-not_last xs y n (λ e. other (ap suc e))

pub makes_new_show : (f : Farm) (r : ShowRow) → MakesRows f (record f { shows = f.shows ++ r ∷ [] }) (change.Put (row.Show (length f.shows) r) ∷ [])
makes_new_show f r = makes_put f (record f { shows = f.shows ++ r ∷ [] }) (row.Show (length f.shows) r) (ap (option_map (row.Show (length f.shows))) (slice_get-last f.shows r)) others
  where
    others : (k : RowKey) → is_head k ≡ false → is_key (key.Show (length f.shows)) k ≡ false → row_at (record f { shows = f.shows ++ r ∷ [] }) k ≡ row_at f k
    others (key.Show n) named e = ap (option_map (row.Show n)) (slice_get-not_last f.shows r n (apart (length f.shows) n e))
    others k named e = refl

pub makes_new_alloc : (f : Farm) (r : AllocRow) → MakesRows f (record f { allocs = f.allocs ++ r ∷ [] }) (change.Put (row.Alloc (length f.allocs) r) ∷ [])
makes_new_alloc f r = makes_put f (record f { allocs = f.allocs ++ r ∷ [] }) (row.Alloc (length f.allocs) r) (ap (option_map (row.Alloc (length f.allocs))) (slice_get-last f.allocs r)) others
  where
    others : (k : RowKey) → is_head k ≡ false → is_key (key.Alloc (length f.allocs)) k ≡ false → row_at (record f { allocs = f.allocs ++ r ∷ [] }) k ≡ row_at f k
    others (key.Alloc n) named e = ap (option_map (row.Alloc n)) (slice_get-not_last f.allocs r n (apart (length f.allocs) n e))
    others k named e = refl

pub makes_new_host : (f : Farm) (r : HostRow) → MakesRows f (record f { hosts = f.hosts ++ r ∷ [] }) (change.Put (row.Host (length f.hosts) r) ∷ [])
makes_new_host f r = makes_put f (record f { hosts = f.hosts ++ r ∷ [] }) (row.Host (length f.hosts) r) (ap (option_map (row.Host (length f.hosts))) (slice_get-last f.hosts r)) others
  where
    others : (k : RowKey) → is_head k ≡ false → is_key (key.Host (length f.hosts)) k ≡ false → row_at (record f { hosts = f.hosts ++ r ∷ [] }) k ≡ row_at f k
    others (key.Host n) named e = ap (option_map (row.Host n)) (slice_get-not_last f.hosts r n (apart (length f.hosts) n e))
    others k named e = refl

-- ---- one more at the end, with its number

module _ {X : Type 0} (test : X → Bool) where
  -- the new one, where it is the first that is wanted
  pub find-last : (xs : List X) (y : X) → find test xs ≡ None → test y ≡ true → find test (xs ++ y ∷ []) ≡ Some y
  find-last xs y none is = find-append test xs (y ∷ []) ∙ ap (λ (o : Option X). option_or o (find test (y ∷ []))) none ∙ ap (λ (b : Bool). cond b (Some y) None) is

  pub find-not_last : (xs : List X) (y : X) → test y ≡ false → find test (xs ++ y ∷ []) ≡ find test xs
  find-not_last [] y isnt = ap (λ (b : Bool). cond b (Some y) None) isnt
  find-not_last (x ∷ xs) y isnt = ap (cond (test x) (Some x)) (find-not_last xs y isnt)

pub makes_new_job : (f : Farm) (r : JobRow) → job_at f r.job ≡ None → MakesRows f (record f { jobs = f.jobs ++ r ∷ [] }) (change.Put (row.Job r) ∷ [])
makes_new_job f r new =
    makes_put f (record f { jobs = f.jobs ++ r ∷ [] }) (row.Job r) (ap (option_map row.Job) (find-last (λ (j : JobRow). j.job == r.job) f.jobs r new (eq-eqb r.job r.job refl))) others
  where
    others : (k : RowKey) → is_head k ≡ false → is_key (key.Job r.job) k ≡ false → row_at (record f { jobs = f.jobs ++ r ∷ [] }) k ≡ row_at f k
    others (key.Job n) named e = ap (option_map row.Job) (find-not_last (λ (j : JobRow). j.job == n) f.jobs r e)
    others k named e = refl

pub makes_new_layer : (f : Farm) (r : LayerRow) → layer_at f r.job r.place ≡ None → MakesRows f (record f { layers = f.layers ++ r ∷ [] }) (change.Put (row.Layer r) ∷ [])
makes_new_layer f r new =
    makes_put f (record f { layers = f.layers ++ r ∷ [] }) (row.Layer r)
    (ap (option_map row.Layer) (find-last (λ (l : LayerRow). l.job == r.job && l.place == r.place) f.layers r new (rw (eq-eqb r.job r.job refl, eq-eqb r.place r.place refl) refl))) others
  where
    others : (k : RowKey) → is_head k ≡ false → is_key (key.Layer r.job r.place) k ≡ false → row_at (record f { layers = f.layers ++ r ∷ [] }) k ≡ row_at f k
    others (key.Layer job place) named e = ap (option_map row.Layer) (find-not_last (λ (l : LayerRow). l.job == job && l.place == place) f.layers r e)
    others k named e = refl

pub makes_new_depend : (f : Farm) (r : DependRow) → find (λ (d : DependRow). d.depend == r.depend) f.depends ≡ None → MakesRows f (record f { depends = f.depends ++ r ∷ [] }) (change.Put (row.Depend r) ∷ [])
makes_new_depend f r new =
    makes_put f (record f { depends = f.depends ++ r ∷ [] }) (row.Depend r) (ap (option_map row.Depend) (find-last (λ (d : DependRow). d.depend == r.depend) f.depends r new (eq-eqb r.depend r.depend refl))) others
  where
    others : (k : RowKey) → is_head k ≡ false → is_key (key.Depend r.depend) k ≡ false → row_at (record f { depends = f.depends ++ r ∷ [] }) k ≡ row_at f k
    others (key.Depend n) named e = ap (option_map row.Depend) (find-not_last (λ (d : DependRow). d.depend == n) f.depends r e)
    others k named e = refl

-- ---- a subscription is added or set

module _ (r : SubRow) where
  sub_here : (subs : List SubRow) → find (λ (s : SubRow). s.sub == r.sub) (with_sub r subs) ≡ Some r
  sub_here [] = rw (eq-eqb r.sub r.sub refl) refl
  sub_here (s ∷ ss) = by (eqb s.sub r.sub) (ltb r.sub s.sub) refl (sub_here ss)
    where
      by : (same less : Bool) → eqb s.sub r.sub ≡ same → find (λ (x : SubRow). x.sub == r.sub) (with_sub r ss) ≡ Some r → find (λ (x : SubRow). x.sub == r.sub) (cond same (r ∷ ss) (cond less (r ∷ s ∷ ss) (s ∷ with_sub r ss))) ≡ Some r
      by true less e later = rw (eq-eqb r.sub r.sub refl) refl
      by false true e later = rw (eq-eqb r.sub r.sub refl) refl
      by false false e later = ap (λ (b : Bool). cond b (Some s) (find (λ (x : SubRow). x.sub == r.sub) (with_sub r ss))) e ∙ later

  sub_elsewhere : (n : ℕ) → eqb r.sub n ≡ false → (subs : List SubRow) → find (λ (s : SubRow). s.sub == n) (with_sub r subs) ≡ find (λ (s : SubRow). s.sub == n) subs
  sub_elsewhere n e [] = ap (λ (b : Bool). cond b (Some r) None) e
  sub_elsewhere n e (s ∷ ss) = by (eqb s.sub r.sub) (ltb r.sub s.sub) refl (sub_elsewhere n e ss)
    where
      by : (same less : Bool) → eqb s.sub r.sub ≡ same → find (λ (x : SubRow). x.sub == n) (with_sub r ss) ≡ find (λ (x : SubRow). x.sub == n) ss
          → find (λ (x : SubRow). x.sub == n) (cond same (r ∷ ss) (cond less (r ∷ s ∷ ss) (s ∷ with_sub r ss))) ≡ cond (eqb s.sub n) (Some s) (find (λ (x : SubRow). x.sub == n) ss)
      by true less is later =
          let gone : eqb s.sub n ≡ false = ap (λ (m : ℕ). eqb m n) (eqb-true s.sub r.sub is) ∙ e in
          ap (λ (b : Bool). cond b (Some r) (find (λ (x : SubRow). x.sub == n) ss)) e ∙ sym (ap (λ (b : Bool). cond b (Some s) (find (λ (x : SubRow). x.sub == n) ss)) gone)
      by false true is later = ap (λ (b : Bool). cond b (Some r) (cond (eqb s.sub n) (Some s) (find (λ (x : SubRow). x.sub == n) ss))) e
      by false false is later = ap (cond (eqb s.sub n) (Some s)) later

pub makes_sub : (f : Farm) (r : SubRow) → MakesRows f (record f { subs = with_sub r f.subs }) (change.Put (row.Sub r) ∷ [])
makes_sub f r = makes_put f (record f { subs = with_sub r f.subs }) (row.Sub r) (ap (option_map row.Sub) (sub_here r f.subs)) others
  where
    others : (k : RowKey) → is_head k ≡ false → is_key (key.Sub r.sub) k ≡ false → row_at (record f { subs = with_sub r f.subs }) k ≡ row_at f k
    others (key.Sub n) named e = ap (option_map row.Sub) (sub_elsewhere r n e f.subs)
    others k named e = refl

-- ---- jobs that change or go

-- the job of that number changed, the others not
abbrev pub changed_job : ℕ → (JobRow → JobRow) → JobRow → JobRow
changed_job job become j = cond (j.job == job) (become j) j

module _ (job : ℕ) (become : JobRow → JobRow) (keeps : (j : JobRow) → (become j).job ≡ j.job) where
  keeps_number : (j : JobRow) → (changed_job job become j).job ≡ j.job
  keeps_number j = by (j.job == job)
    where
      by : (b : Bool) → (cond b (become j) j).job ≡ j.job
      by true = keeps j
      by false = refl

  job_here : (jobs : List JobRow) → find (λ (j : JobRow). j.job == job) (map (changed_job job become) jobs) ≡ option_map become (find (λ (j : JobRow). j.job == job) jobs)
  job_here [] = refl
  job_here (j ∷ js) = by (j.job == job) refl (job_here js)
    where
      by : (b : Bool) → (j.job == job) ≡ b → find (λ (x : JobRow). x.job == job) (map (changed_job job become) js) ≡ option_map become (find (λ (x : JobRow). x.job == job) js)
          → cond (eqb (changed_job job become j).job job) (Some (changed_job job become j)) (find (λ (x : JobRow). x.job == job) (map (changed_job job become) js)) ≡ option_map become (cond (j.job == job) (Some j) (find (λ (x : JobRow). x.job == job) js))
      by true e later =
          ap (λ (n : ℕ). cond (eqb n job) (Some (changed_job job become j)) (find (λ (x : JobRow). x.job == job) (map (changed_job job become) js))) (keeps_number j)
          ∙ ap (λ (b : Bool). cond b (Some (cond b (become j) j)) (find (λ (x : JobRow). x.job == job) (map (changed_job job become) js))) e
          ∙ sym (ap (λ (b : Bool). option_map become (cond b (Some j) (find (λ (x : JobRow). x.job == job) js))) e)
      by false e later =
          ap (λ (n : ℕ). cond (eqb n job) (Some (changed_job job become j)) (find (λ (x : JobRow). x.job == job) (map (changed_job job become) js))) (keeps_number j)
          ∙ ap (λ (b : Bool). cond b (Some (cond b (become j) j)) (find (λ (x : JobRow). x.job == job) (map (changed_job job become) js))) e
          ∙ later
          ∙ sym (ap (λ (b : Bool). option_map become (cond b (Some j) (find (λ (x : JobRow). x.job == job) js))) e)

  job_elsewhere : (n : ℕ) → eqb job n ≡ false → (jobs : List JobRow) → find (λ (j : JobRow). j.job == n) (map (changed_job job become) jobs) ≡ find (λ (j : JobRow). j.job == n) jobs
  job_elsewhere n e [] = refl
  job_elsewhere n e (j ∷ js) = by (j.job == job) refl (job_elsewhere n e js)
    where
      by : (b : Bool) → (j.job == job) ≡ b → find (λ (x : JobRow). x.job == n) (map (changed_job job become) js) ≡ find (λ (x : JobRow). x.job == n) js
          → cond (eqb (changed_job job become j).job n) (Some (changed_job job become j)) (find (λ (x : JobRow). x.job == n) (map (changed_job job become) js)) ≡ cond (eqb j.job n) (Some j) (find (λ (x : JobRow). x.job == n) js)
      by true is later =
          let gone : eqb j.job n ≡ false = ap (λ (m : ℕ). eqb m n) (eqb-true j.job job is) ∙ e in
          ap (λ (m : ℕ). cond (eqb m n) (Some (changed_job job become j)) (find (λ (x : JobRow). x.job == n) (map (changed_job job become) js))) (keeps_number j)
          ∙ ap (λ (b : Bool). cond b (Some (changed_job job become j)) (find (λ (x : JobRow). x.job == n) (map (changed_job job become) js))) gone
          ∙ later
          ∙ sym (ap (λ (b : Bool). cond b (Some j) (find (λ (x : JobRow). x.job == n) js)) gone)
      by false is later =
          ap (λ (b : Bool). cond (eqb (cond b (become j) j).job n) (Some (cond b (become j) j)) (find (λ (x : JobRow). x.job == n) (map (changed_job job become) js))) is
          ∙ ap (cond (eqb j.job n) (Some j)) later

module _ (f : Farm) (job : ℕ) (become : JobRow → JobRow) (keeps : (j : JobRow) → (become j).job ≡ j.job) where
  other_jobs : (k : RowKey) → is_head k ≡ false → is_key (key.Job job) k ≡ false → row_at (record f { jobs = map (changed_job job become) f.jobs }) k ≡ row_at f k
  other_jobs (key.Job n) named e = ap (option_map row.Job) (job_elsewhere job become keeps n e f.jobs)
  other_jobs k named e = refl

  -- a job that is there changes, and keeps its number
  pub makes_job : (j : JobRow) → job_at f job ≡ Some j → (become j).job ≡ job → MakesRows f (record f { jobs = map (changed_job job become) f.jobs }) (change.Put (row.Job (become j)) ∷ [])
  makes_job j there number =
      let here : row_at (record f { jobs = map (changed_job job become) f.jobs }) (key.Job job) ≡ Some (row.Job (become j)) =
      ap (option_map row.Job) (job_here job become keeps f.jobs ∙ ap (option_map become) there)
      in
      makes_put f (record f { jobs = map (changed_job job become) f.jobs }) (row.Job (become j))
      (subst (λ (n : ℕ). row_at (record f { jobs = map (changed_job job become) f.jobs }) (key.Job n) ≡ Some (row.Job (become j))) (sym number) here)
      (λ k named e. other_jobs k named (ap (λ (n : ℕ). is_key (key.Job n) k) (sym number) ∙ e))

  -- one that isn't there makes no difference
  pub makes_no_job : job_at f job ≡ None → MakesRows f (record f { jobs = map (changed_job job become) f.jobs }) []
  makes_no_job gone (key.Job n) named = by (eqb job n) refl
    where
      by : (b : Bool) → eqb job n ≡ b → row_at (record f { jobs = map (changed_job job become) f.jobs }) (key.Job n) ≡ row_at f (key.Job n)
      by true e =
          subst (λ (m : ℕ). row_at (record f { jobs = map (changed_job job become) f.jobs }) (key.Job m) ≡ row_at f (key.Job m)) (eqb-true job n e)
          (ap (option_map row.Job) (job_here job become keeps f.jobs ∙ ap (option_map become) gone) ∙ sym (ap (option_map row.Job) gone))
      by false e = other_jobs (key.Job n) named e
  makes_no_job gone key.Head named = refl
  makes_no_job gone k named = refl

module _ (job : ℕ) where
  gone_here : (jobs : List JobRow) → find (λ (j : JobRow). j.job == job) (filter (λ (j : JobRow). not (j.job == job)) jobs) ≡ None
  gone_here [] = refl
  gone_here (j ∷ js) = by (j.job == job) refl (gone_here js)
    where
      by : (b : Bool) → (j.job == job) ≡ b → find (λ (x : JobRow). x.job == job) (filter (λ (x : JobRow). not (x.job == job)) js) ≡ None → find (λ (x : JobRow). x.job == job) (cond (not b) (j ∷ filter (λ (x : JobRow). not (x.job == job)) js) (filter (λ (x : JobRow). not (x.job == job)) js)) ≡ None
      by true e later = later
      by false e later = ap (λ (b : Bool). cond b (Some j) (find (λ (x : JobRow). x.job == job) (filter (λ (x : JobRow). not (x.job == job)) js))) e ∙ later

  gone_elsewhere : (n : ℕ) → eqb job n ≡ false → (jobs : List JobRow) → find (λ (j : JobRow). j.job == n) (filter (λ (j : JobRow). not (j.job == job)) jobs) ≡ find (λ (j : JobRow). j.job == n) jobs
  gone_elsewhere n e [] = refl
  gone_elsewhere n e (j ∷ js) = by (j.job == job) refl (gone_elsewhere n e js)
    where
      by : (b : Bool) → (j.job == job) ≡ b → find (λ (x : JobRow). x.job == n) (filter (λ (x : JobRow). not (x.job == job)) js) ≡ find (λ (x : JobRow). x.job == n) js
          → find (λ (x : JobRow). x.job == n) (cond (not b) (j ∷ filter (λ (x : JobRow). not (x.job == job)) js) (filter (λ (x : JobRow). not (x.job == job)) js)) ≡ cond (eqb j.job n) (Some j) (find (λ (x : JobRow). x.job == n) js)
      by true is later =
          let gone : eqb j.job n ≡ false = ap (λ (m : ℕ). eqb m n) (eqb-true j.job job is) ∙ e in
          later ∙ sym (ap (λ (b : Bool). cond b (Some j) (find (λ (x : JobRow). x.job == n) js)) gone)
      by false is later = ap (cond (eqb j.job n) (Some j)) later

-- a job goes
pub makes_job_gone : (f : Farm) (job : ℕ) → MakesRows f (record f { jobs = filter (λ (j : JobRow). not (j.job == job)) f.jobs }) (change.Delete (key.Job job) ∷ [])
makes_job_gone f job = makes_delete f (record f { jobs = filter (λ (j : JobRow). not (j.job == job)) f.jobs }) (key.Job job) (ap (option_map row.Job) (gone_here job f.jobs)) others
  where
    others : (k : RowKey) → is_head k ≡ false → is_key (key.Job job) k ≡ false → row_at (record f { jobs = filter (λ (j : JobRow). not (j.job == job)) f.jobs }) k ≡ row_at f k
    others (key.Job n) named e = ap (option_map row.Job) (gone_elsewhere job n e f.jobs)
    others k named e = refl
