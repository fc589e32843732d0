-- A host's line is read as it was written, or not at all: whatever its numbers and texts are, it is never read as something else.
use Rattle.std.proofs.Common.{◌≡◌, ℕ, ◌<◌, ◌≤◌, ◌^◌, ◌&&◌, Bool, true, false, cond, List, [], ◌∷◌, map, length, Option, None, Some, Result, Ok, Err, refl, sym, ap, ◌∙◌, arith}
use Rattle.std.specs.Prelude.{codes, nat_le}
use Rattle.std.specs.List.{AllByRecursion}
use Rattle.std.specs.Str.{is_utf8}
use Rattle.std.proofs.lemmas.Option.{none-some, same_Some}
use Rattle.std.proofs.lemmas.Str.{IsUtf8-from_is_utf8}
use Rattle.json.proofs.Printed.Utf8.{IsUtf8-are_ascii}
use Rattle.serde_json.specs.Data.{Data, Members, array, no_members, object, string}
use Rattle.serde_json.specs.Find.{as_array, as_str, get_member}
use Rattle.serde_json.specs.Read.{max_depth}
use Rattle.serde_json.specs.View.{items_of}
use Rattle.serde_json.specs.Written.{compact_text}
use Rattle.cue_json.specs.Fields.{Fault, WrongKind, field_of, ◌>>=◌, as_whole, of_kind, of_member, others_at, text_at, whole_at}
use Rattle.cue_json.specs.Items.{item_at, items_at, list_of}
use Rattle.farm_types.specs.declared.attempt.Attempt.{Attempt}
use Rattle.farm_types.specs.declared.attempt.DoneItem.{DoneItem}
use Rattle.farm_types.specs.declared.attempt.Exit.{Exit}
use Rattle.farm_types.specs.declared.boot.BootLine.{BootLine}
use Rattle.farm_types.specs.declared.limits.TheConstants.{LAST_BOOT, LAST_SLOT, LAST_VERSION, LEAST_CORES, LEAST_MEMORY, MOST_CORES, MOST_EXIT, MOST_MEMORY, MOST_TAGS}
use Rattle.farm_types.specs.Forms.{is_name_text}
use Rattle.farm_lines.specs.declared.boot_form.BootForm.{BootForm}
use Rattle.farm_lines.specs.declared.report.Report.{Report}
use Rattle.farm_lines.specs.declared.request.Request.{Request}
use Rattle.farm_lines.specs.declared.request.Request.TheVariants as request
use Rattle.farm_lines.specs.Fields.{name_at, optional_whole_at}
use Rattle.farm_lines.specs.Reply.{attempt_data, attempts_data}
use Rattle.farm_lines.specs.Request.{BadLine, asked, attempt_at, attempt_keys, boot_form_at, boot_keys, boot_line_at, boot_line_of, done_at, done_keys, error_of, judged, report_at, report_keys, request_at, request_in, request_of}
use Rattle.farm_lines.specs.RequestText.{boot_line, done_item_data, report_line, request_text}
use Rattle.farm_lines.specs.Spec.{Field, SpecError, form_first, number_at, tags_at, within}
use Rattle.farm_lines.specs.Words.{whole}
use Rattle.object_writer.proofs.DataBack.{Fits, ItemsFit, object_back}
use Rattle.rqd_core.specs.declared.config.RqdConfig.{RqdConfig}
use Rattle.rqd_core.specs.Life.{boot_of}
use Rattle.world_law.specs.Texts.{IsAttemptWithin, IsConfigWithin, IsItemWithin}

-- the fields of an object
abbrev fields_in : Data → Members
fields_in (object ms) = ms
fields_in other = no_members

-- ---- what was read

abbrev ok_of : {A E : Type 0} → Result A E → Option A
ok_of (Ok a) = Some a
ok_of (Err e) = None

same_ok : {A E : Type 0} (a b : A) → ◌≡◌ {A = Result A E} (Ok a) (Ok b) → a ≡ b
same_ok a b is = same_Some a b (ap ok_of is)

no_ok : {A E : Type 0} (e : E) (a : A) → ◌≡◌ {A = Result A E} (Err e) (Ok a) → ⊥
no_ok e a is = none-some a (ap ok_of is)

-- the parts of what was read by two readers, one after the other
bind_ok : {A B E : Type 0} (r : Result A E) (next : A → Result B E) (y : B) → (r >>= next) ≡ Ok y → (a : A) × (r ≡ Ok a) × (next a ≡ Ok y)
bind_ok (Ok a) next y is = (a, refl, is)
bind_ok (Err e) next y is = absurd (no_ok e y is)

-- ---- fields

kind_as : {X : Type 0} (field : List ℕ) (b : Bool) (x y : X) → of_kind field (cond b (Some x) None) ≡ Ok y → y ≡ x
kind_as field true x y is = sym (same_ok x y is)
kind_as field false x y is = absurd (no_ok (WrongKind field) y is)

whole_as : (field : List ℕ) (least most n m : ℕ) (ms : Members) → get_member field ms ≡ Some (whole n) → whole_at field least most ms ≡ Ok m → m ≡ n
whole_as field least most n m ms found is = kind_as field (nat_le least n && nat_le n most) n m (sym (ap (of_member field (as_whole least most)) found) ∙ is)

text_as : (field : List ℕ) (text other : List ℕ) (ms : Members) → get_member field ms ≡ Some (string text) → text_at field ms ≡ Ok other → other ≡ text
text_as field text other ms found is = sym (same_ok text other (sym (ap (of_member field as_str) found) ∙ is))

name_by : (field : List ℕ) (b : Bool) (name other : List ℕ) → ◌≡◌ {A = Result (List ℕ) Fault} (cond b (Ok name) (Err (WrongKind field))) (Ok other) → other ≡ name
name_by field true name other is = sym (same_ok name other is)
name_by field false name other is = absurd (no_ok (WrongKind field) other is)

name_as : (field : List ℕ) (name other : List ℕ) (ms : Members) → get_member field ms ≡ Some (string name) → name_at field ms ≡ Ok other → other ≡ name
name_as field name other ms found is =
    let read = bind_ok (text_at field ms) _ other is in
    name_by field (is_name_text read.0) read.0 other read.2 ∙ text_as field name read.0 ms found read.1

-- ---- lists

module _ {X : Type 0} (spelled : X → Data) (field : List ℕ) (read : Members → Result X Fault) (each : (x y : X) → item_at field read (spelled x) ≡ Ok y → y ≡ x) where
  items_as : (xs ys : List X) → items_at field read (items_of (map spelled xs)) ≡ Ok ys → ys ≡ xs
  items_as [] ys is = sym (same_ok [] ys is)
  items_as (x ∷ xs) ys is =
      let first = bind_ok (item_at field read (spelled x)) _ ys is in
      let rest = bind_ok (items_at field read (items_of (map spelled xs))) _ ys first.2 in
      let here = each x first.0 first.1 in
      let behind = items_as xs rest.0 rest.1 in
      sym (same_ok (first.0 ∷ rest.0) ys rest.2) ∙ (λ i. here i ∷ behind i)

  list_as : (xs ys : List X) (ms : Members) → get_member field ms ≡ Some (array (items_of (map spelled xs))) → list_of field read ms ≡ Ok ys → ys ≡ xs
  list_as xs ys ms found is = items_as xs ys (sym (ap (λ d. of_member field as_array d >>= items_at field read) found) ∙ is)

-- ---- attempts and completions

attempt_fields : (ms : Members) (a y : Attempt) → get_member (codes "slot") ms ≡ Some (whole a.slot) → get_member (codes "version") ms ≡ Some (whole a.version)
    → attempt_at ms ≡ Ok y → y ≡ a
unfolding attempt_at
attempt_fields ms a y slot version is =
    let s = bind_ok (whole_at (codes "slot") 0 LAST_SLOT ms) _ y is in
    let v = bind_ok (whole_at (codes "version") 0 LAST_VERSION ms) _ y s.2 in
    let o = bind_ok (others_at attempt_keys ms) _ y v.2 in
    let slot_is = whole_as (codes "slot") 0 LAST_SLOT a.slot s.0 ms slot s.1 in
    let version_is = whole_as (codes "version") 0 LAST_VERSION a.version v.0 ms version v.1 in
    sym (same_ok (record { slot = s.0; version = v.0 }) y o.2) ∙ (λ i. record { slot = slot_is i; version = version_is i })

attempt_as : (field : List ℕ) (a y : Attempt) → item_at field attempt_at (attempt_data a) ≡ Ok y → y ≡ a
unfolding attempt_data
attempt_as field a y is = attempt_fields _ a y refl refl is

done_fields : (ms : Members) (d y : DoneItem) → get_member (codes "slot") ms ≡ Some (whole d.attempt.slot) → get_member (codes "version") ms ≡ Some (whole d.attempt.version)
    → get_member (codes "status") ms ≡ Some (whole d.exit.status) → get_member (codes "signal") ms ≡ Some (whole d.exit.signal)
    → ((free : Option ℕ) → optional_whole_at (codes "free") 0 MOST_CORES ms ≡ Ok free → free ≡ d.free) → done_at ms ≡ Ok y → y ≡ d
unfolding done_at
done_fields ms d y slot version status signal free is =
    let a = bind_ok (whole_at (codes "slot") 0 LAST_SLOT ms) _ y is in
    let b = bind_ok (whole_at (codes "version") 0 LAST_VERSION ms) _ y a.2 in
    let c = bind_ok (whole_at (codes "status") 0 MOST_EXIT ms) _ y b.2 in
    let e = bind_ok (whole_at (codes "signal") 0 MOST_EXIT ms) _ y c.2 in
    let g = bind_ok (optional_whole_at (codes "free") 0 MOST_CORES ms) _ y e.2 in
    let o = bind_ok (others_at done_keys ms) _ y g.2 in
    let slot_is = whole_as (codes "slot") 0 LAST_SLOT d.attempt.slot a.0 ms slot a.1 in
    let version_is = whole_as (codes "version") 0 LAST_VERSION d.attempt.version b.0 ms version b.1 in
    let status_is = whole_as (codes "status") 0 MOST_EXIT d.exit.status c.0 ms status c.1 in
    let signal_is = whole_as (codes "signal") 0 MOST_EXIT d.exit.signal e.0 ms signal e.1 in
    let free_is = free g.0 g.1 in
    sym (same_ok (record { attempt = record { slot = a.0; version = b.0 }; exit = record { status = c.0; signal = e.0 }; free = g.0 }) y o.2)
    ∙ (λ i. record { attempt = record { slot = slot_is i; version = version_is i }; exit = record { status = status_is i; signal = signal_is i }; free = free_is i })

free_as : (ms : Members) (cores : ℕ) (free : Option ℕ) → get_member (codes "free") ms ≡ Some (whole cores) → optional_whole_at (codes "free") 0 MOST_CORES ms ≡ Ok free
    → free ≡ Some cores
free_as ms cores free found is =
    let there : whole_at (codes "free") 0 MOST_CORES ms >>= (λ n. Ok (Some n)) ≡ Ok free = sym (rw found refl) ∙ is in
    let read = bind_ok (whole_at (codes "free") 0 MOST_CORES ms) _ free there in
    sym (same_ok (Some read.0) free read.2) ∙ ap Some (whole_as (codes "free") 0 MOST_CORES cores read.0 ms found read.1)

module _ (attempt : Attempt) (exit : Exit) where
  abbrev completion : Option ℕ → DoneItem
  completion free = record { attempt = attempt; exit = exit; free = free }

  completion_as : (field : List ℕ) (free : Option ℕ) (y : DoneItem) → item_at field done_at (done_item_data (completion free)) ≡ Ok y → y ≡ completion free
  completion_as field None y is = done_fields _ (completion None) y refl refl refl refl (λ free none. sym (same_ok None free none)) is
  completion_as field (Some cores) y is =
      let ms = fields_in (done_item_data (completion (Some cores))) in
      done_fields ms (completion (Some cores)) y refl refl refl refl (λ free told. free_as ms cores free refl told) is

done_as : (field : List ℕ) (d y : DoneItem) → item_at field done_at (done_item_data d) ≡ Ok y → y ≡ d
done_as field d y is = completion_as d.attempt d.exit field d.free y is

-- ---- a report

report_fields : (ms : Members) (r y : Report) → get_member (codes "host") ms ≡ Some (string r.heard.host) → get_member (codes "boot") ms ≡ Some (whole r.heard.boot)
    → get_member (codes "seq") ms ≡ Some (whole r.heard.seq) → get_member (codes "running") ms ≡ Some (attempts_data r.running)
    → get_member (codes "done") ms ≡ Some (array (items_of (map done_item_data r.heard.done))) → report_at ms ≡ Ok y → y ≡ r
unfolding report_at
report_fields ms r y host boot seq running done is =
    let a = bind_ok (name_at (codes "host") ms) _ y is in
    let b = bind_ok (whole_at (codes "boot") 1 LAST_BOOT ms) _ y a.2 in
    let c = bind_ok (whole_at (codes "seq") 1 18446744073709551615 ms) _ y b.2 in
    let d = bind_ok (list_of (codes "running") attempt_at ms) _ y c.2 in
    let e = bind_ok (list_of (codes "done") done_at ms) _ y d.2 in
    let o = bind_ok (others_at report_keys ms) _ y e.2 in
    let host_is = name_as (codes "host") r.heard.host a.0 ms host a.1 in
    let boot_is = whole_as (codes "boot") 1 LAST_BOOT r.heard.boot b.0 ms boot b.1 in
    let seq_is = whole_as (codes "seq") 1 18446744073709551615 r.heard.seq c.0 ms seq c.1 in
    let running_is = list_as attempt_data (codes "running") attempt_at (attempt_as (codes "running")) r.running d.0 ms running d.1 in
    let done_is = list_as done_item_data (codes "done") done_at (done_as (codes "done")) r.heard.done e.0 ms done e.1 in
    sym (same_ok (record { heard = record { host = a.0; boot = b.0; seq = c.0; done = e.0 }; running = d.0 }) y o.2)
    ∙ (λ i. record { heard = record { host = host_is i; boot = boot_is i; seq = seq_is i; done = done_is i }; running = running_is i })

-- ---- a boot

boot_fields : (ms : Members) (b : BootLine) (y : BootForm) → get_member (codes "host") ms ≡ Some (string b.host) → get_member (codes "nonce") ms ≡ Some (whole b.nonce)
    → boot_form_at ms ≡ Ok y → (y.host ≡ b.host) × (y.nonce ≡ b.nonce)
unfolding boot_form_at
boot_fields ms b y host nonce is =
    let a = bind_ok (name_at (codes "host") ms) _ y is in
    let n = bind_ok (number_at (codes "nonce") ms) _ y a.2 in
    let c = bind_ok (text_at (codes "alloc") ms) _ y n.2 in
    let d = bind_ok (tags_at (codes "tags") ms) _ y c.2 in
    let e = bind_ok (number_at (codes "cores") ms) _ y d.2 in
    let f = bind_ok (number_at (codes "memory") ms) _ y e.2 in
    let o = bind_ok (others_at boot_keys ms) _ y f.2 in
    let host_is = name_as (codes "host") b.host a.0 ms host a.1 in
    let nonce_is = whole_as (codes "nonce") 0 18446744073709551615 b.nonce n.0 ms nonce n.1 in
    let read = same_ok (record { host = a.0; nonce = n.0; alloc = c.0; tags = d.0; cores = e.0; memory = f.0 }) y o.2 in
    (sym (ap (λ (form : BootForm). form.host) read) ∙ host_is, sym (ap (λ (form : BootForm). form.nonce) read) ∙ nonce_is)

form_ok : {X : Type 0} (r : Result X Fault) (y : X) → form_first r ≡ Ok y → r ≡ Ok y
form_ok (Ok x) y is = ap Ok (same_ok x y is)
form_ok (Err fault) y is = absurd (no_ok (Field fault) y is)

amounts_as : (form : BootForm) (y : BootLine) → boot_line_of form ≡ Ok y → (y.host ≡ form.host) × (y.nonce ≡ form.nonce)
unfolding boot_line_of
amounts_as form y is =
    let a = bind_ok (within (codes "tags") 0 MOST_TAGS (length form.tags)) _ y is in
    let b = bind_ok (within (codes "cores") LEAST_CORES MOST_CORES form.cores) _ y a.2 in
    let c = bind_ok (within (codes "memory") LEAST_MEMORY MOST_MEMORY form.memory) _ y b.2 in
    let read = same_ok (record { host = form.host; nonce = form.nonce; alloc = form.alloc; tags = form.tags; cores = form.cores; memory = form.memory }) y c.2 in
    (sym (ap (λ (line : BootLine). line.host) read), sym (ap (λ (line : BootLine). line.nonce) read))

boot_line_as : (ms : Members) (b y : BootLine) → get_member (codes "host") ms ≡ Some (string b.host) → get_member (codes "nonce") ms ≡ Some (whole b.nonce)
    → boot_line_at ms ≡ Ok y → (y.host ≡ b.host) × (y.nonce ≡ b.nonce)
boot_line_as ms b y host nonce is =
    let read = bind_ok (form_first (boot_form_at ms)) _ y is in
    let form = boot_fields ms b read.0 host nonce (form_ok (boot_form_at ms) read.0 read.1) in
    let line = amounts_as read.0 y read.2 in
    (line.0 ∙ form.0, line.1 ∙ form.1)

-- ---- the whole line

asked_ok : {X : Type 0} (asks : X → Request) (r : Result X Fault) (q : Request) → asked asks r ≡ Ok q → (x : X) × (r ≡ Ok x) × (q ≡ asks x)
asked_ok asks (Ok x) q is = (x, refl, sym (same_ok (asks x) q is))
asked_ok asks (Err fault) q is = absurd (no_ok (BadLine (field_of fault)) q is)

judged_ok : {X : Type 0} (asks : X → Request) (r : Result X SpecError) (q : Request) → judged asks r ≡ Ok q → (x : X) × (r ≡ Ok x) × (q ≡ asks x)
judged_ok asks (Ok x) q is = (x, refl, sym (same_ok (asks x) q is))
judged_ok asks (Err error) q is = absurd (no_ok (error_of error) q is)

-- a text of this object that is read as a request is read as this
read_in : (n : ℕ) (ms : Members) (q : Request) → Fits n (object ms) → n ≤ max_depth → request_of (compact_text (object ms)) ≡ Ok q → request_at ms ≡ Ok q
unfolding request_of
read_in n ms q fits shallow is = sym (ap request_in (object_back n ms fits shallow)) ∙ is

report_read : (r : Report) (q : Request) → Fits 3 (report_line r) → request_of (compact_text (report_line r)) ≡ Ok q → q ≡ request.Report r
unfolding report_line
report_read r q fits is =
    let ms = fields_in (report_line r) in
    let read = asked_ok request.Report (report_at ms) q (read_in 3 ms q fits (omega arith) is) in
    read.2 ∙ ap request.Report (report_fields ms r read.0 refl refl refl refl refl read.1)

boot_read : (b : BootLine) (q : Request) → Fits 2 (boot_line b) → request_of (compact_text (boot_line b)) ≡ Ok q
    → (line : BootLine) × (q ≡ request.Boot line) × (line.host ≡ b.host) × (line.nonce ≡ b.nonce)
unfolding boot_line
boot_read b q fits is =
    let ms = fields_in (boot_line b) in
    let read = judged_ok request.Boot (boot_line_at ms) q (read_in 2 ms q fits (omega arith) is) in
    let line = boot_line_as ms b read.0 refl refl read.1 in
    (read.0, read.2, line.0, line.1)

-- ---- what fits

module _ {X : Type 0} (spelled : X → Data) (P : X → Type 0) (n : ℕ) (each : (x : X) → P x → Fits n (spelled x)) where
  items_fit : (xs : List X) → AllByRecursion P xs → ItemsFit n (items_of (map spelled xs))
  items_fit [] all = tt
  items_fit (x ∷ xs) all = (each x all.0, items_fit xs all.1)

attempt_fits : (a : Attempt) → IsAttemptWithin a → Fits 1 (attempt_data a)
unfolding attempt_data
attempt_fits a h = (refl, omega (arith, h.slot), (refl, omega (arith, h.version), tt))

completion_fits : (attempt : Attempt) (exit : Exit) (free : Option ℕ) → IsItemWithin (completion attempt exit free) → Fits 1 (done_item_data (completion attempt exit free))
completion_fits attempt exit None h =
    (refl, omega (arith, h.signal), (refl, omega (arith, h.attempt.slot), (refl, omega (arith, h.status), (refl, omega (arith, h.attempt.version), tt))))
completion_fits attempt exit (Some cores) h =
    let free : cores < 2 ^ 32 = h.free in
    (refl, omega (arith, free), (refl, omega (arith, h.signal), (refl, omega (arith, h.attempt.slot), (refl, omega (arith, h.status), (refl, omega (arith, h.attempt.version), tt)))))

done_fits : (d : DoneItem) → IsItemWithin d → Fits 1 (done_item_data d)
done_fits d h = completion_fits d.attempt d.exit d.free h

-- a report whose numbers are of their types
pub record IsReportWithin (r : Report) : Type 0 where
  pub name : is_utf8 r.heard.host ≡ true
  pub boot : r.heard.boot < 2 ^ 32
  pub seq : r.heard.seq < 2 ^ 64
  pub done : AllByRecursion IsItemWithin r.heard.done
  pub running : AllByRecursion IsAttemptWithin r.running

report_fits : (r : Report) → IsReportWithin r → Fits 3 (report_line r)
unfolding report_line
report_fits r h = (
  refl,
  omega (arith, h.boot),
  (
    refl,
    items_fit done_item_data IsItemWithin 1 done_fits r.heard.done h.done,
    (
      refl,
      IsUtf8-from_is_utf8 r.heard.host h.name,
      (refl, IsUtf8-are_ascii (codes "report") refl, (refl, items_fit attempt_data IsAttemptWithin 1 attempt_fits r.running h.running, (refl, h.seq, tt))),
    ),
  ),
)

boot_fits : (c : RqdConfig) → IsConfigWithin c → Fits 2 (boot_line (boot_of c))
unfolding boot_line
boot_fits c h = (
  refl,
  IsUtf8-from_is_utf8 c.alloc h.alloc,
  (
    refl,
    omega (arith, h.cores),
    (refl, IsUtf8-from_is_utf8 c.name h.name, (refl, h.memory, (refl, h.nonce, (refl, IsUtf8-are_ascii (codes "boot") refl, (refl, tt, tt))))),
  ),
)

-- ---- a daemon's lines

-- a report is read as that report
pub report_as : (r : Report) (q : Request) → IsReportWithin r → request_of (request_text (request.Report r)) ≡ Ok q → q ≡ request.Report r
report_as r q h is = report_read r q (report_fits r h) is

-- a boot line is read as a boot of that host with that nonce
pub boot_as : (c : RqdConfig) (q : Request) → IsConfigWithin c → request_of (request_text (request.Boot (boot_of c))) ≡ Ok q
    → (line : BootLine) × (q ≡ request.Boot line) × (line.host ≡ c.name) × (line.nonce ≡ c.nonce)
boot_as c q h is = boot_read (boot_of c) q (boot_fits c h) is
