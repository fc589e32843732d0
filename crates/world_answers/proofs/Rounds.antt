-- A report that the farm takes changes its host's row, and the bookings behind it end nothing.
use Rattle.std.proofs.Common.{◌≡◌, ◌∙◌, ℕ, suc, zero, ◌-◌, ◌<◌, ◌&&◌, Bool, true, false, cond, eqb, List, [], ◌∷◌, ◌++◌, take, Option, None, Some, refl, sym, ap, arith}
use Rattle.std.specs.Prelude.{nat_lt, slice_get, option_map, if◌then◌else◌}
use Rattle.std.proofs.lemmas.Bool.{ltb-true}
use Rattle.std.proofs.lemmas.Option.{none-some, same_Some, slice_get-map}
use Rattle.farm_types.specs.declared.attempt.DoneItem.{DoneItem}
use Rattle.farm_types.specs.declared.dispatch.Candidate.{Candidate}
use Rattle.farm_types.specs.declared.entry.Act.{Act}
use Rattle.farm_types.specs.declared.entry.Act.TheVariants.{Book, EatFrame, Heard, KillJob}
use Rattle.farm_types.specs.declared.entry.Entry.{Entry}
use Rattle.farm_types.specs.declared.entry.HeardAct.{HeardAct}
use Rattle.farm_types.specs.declared.attempt.ProcRow.{ProcRow}
use Rattle.farm_types.specs.declared.refusal.Refusal.TheVariants.{Stale, Unknown, WrongBoot}
use Rattle.farm_types.specs.declared.rows.HostRow.{HostRow}
use Rattle.farm_types.specs.Booking.{may_book}
use Rattle.farm_types.specs.Dispatch.{book_entry, round_from}
use Rattle.farm_types.specs.Farm.{Farm, changed_at, host_named}
use Rattle.farm_types.specs.Hosts.{heard_row, silenced_row}
use Rattle.farm_types.specs.Run.{run_of}
use Rattle.farm_types.specs.Step.{acted, after, after_heard, at_moment, closed, end_all, end_attempt, ended_row, expire, finish_all, finish_each, finish_one, finishing, followed, host_refusal, is_live, moment_of, new_proc, row_refusal, with_proc}
use Rattle.farm_types.proofs.Changed.{changed_at_same}
use Rattle.farm_law.proofs.Follows.{act_follows}
use Rattle.world_law.specs.Ends.{ends_along, ends_at}

-- ---- bookings

abbrev pub IsBook : Act → Type 0
IsBook (Book slot host) = Unit {0}
IsBook other = ⊥

abbrev pub AreBooks : List Entry → Type 0
AreBooks [] = Unit {0}
AreBooks (e ∷ es) = IsBook e.act × AreBooks es

pub round_books : (left : ℕ) (f : Farm) (moment : ℕ) (cs : List Candidate) → AreBooks (round_from left f moment cs)
round_books left f moment [] = tt
round_books left f moment (c ∷ cs) =
    by (nat_lt 0 left && may_book f c.slot c.host) (round_books (left - 1) (after f (book_entry c moment)) moment cs) (round_books left f moment cs)
  where
    by : (b : Bool) → AreBooks (round_from (left - 1) (after f (book_entry c moment)) moment cs) → AreBooks (round_from left f moment cs)
        → AreBooks (if b then book_entry c moment ∷ round_from (left - 1) (after f (book_entry c moment)) moment cs else round_from left f moment cs)
    by true booked passed = (tt, booked)
    by false booked passed = passed

pub take_books : (n : ℕ) (es : List Entry) → AreBooks es → AreBooks (take n es)
take_books zero es books = tt
take_books (suc n) [] books = tt
take_books (suc n) (e ∷ es) books = (books.0, take_books n es books.1)

-- they end nothing
book_ends : (f : Farm) (moment : ℕ) (act : Act) → IsBook act → ends_at f (record { moment = moment; act = act }) ≡ []
book_ends f moment (Book slot host) book = refl
book_ends f moment other book = absurd book

pub books_end : (f : Farm) (es : List Entry) → AreBooks es → ends_along f es ≡ []
books_end f [] books = refl
books_end f (e ∷ es) books =
    ap (λ (ds : List DoneItem). ds ++ ends_along (after f e) es) (book_ends f e.moment e.act books.0) ∙ books_end (after f e) es books.1

-- ---- hosts

ends_hosts : (f : Farm) (host boot : ℕ) (ds : List DoneItem) → (end_all f host boot ds).hosts ≡ f.hosts
ends_hosts f host boot [] = refl
ends_hosts f host boot (d ∷ ds) = ends_hosts (end_attempt f host boot d) host boot ds ∙ by (is_live f host boot d.attempt.slot d.attempt.version)
  where
    by : (b : Bool) → (if b then record f { slots = changed_at f.slots d.attempt.slot (ended_row f d.exit) } else f).hosts ≡ f.hosts
    by true = refl
    by false = refl

each_hosts : (jobs : List ℕ) (f : Farm) → (finish_each jobs f).hosts ≡ f.hosts
each_hosts [] f = refl
each_hosts (job ∷ jobs) f = each_hosts jobs (finish_one job f)

all_hosts : (f : Farm) → (finish_all f).hosts ≡ f.hosts
unfolding finish_all
all_hosts f = each_hosts (finishing f) f

close_hosts : (act : Act) (f : Farm) → (closed act f).hosts ≡ f.hosts
close_hosts (Heard heard) f = all_hosts f
close_hosts (KillJob job) f = all_hosts f
close_hosts (EatFrame p) f = all_hosts f
close_hosts act f = refl

-- what follows of an act, and the jobs that finish, leave the hosts
rest_hosts : (act : Act) (f : Farm) → (closed act (followed act f)).hosts ≡ f.hosts
rest_hosts act f = close_hosts act (followed act f) ∙ ap (λ (g : Farm). g.hosts) (act_follows act f).rest

proc_hosts : (f : Farm) (slot : ℕ) (o : Option ProcRow) → (with_proc f slot o).hosts ≡ f.hosts
proc_hosts f slot None = refl
proc_hosts f slot (Some p) = refl

book_hosts : (f : Farm) (moment : ℕ) (act : Act) → IsBook act → (after f (record { moment = moment; act = act })).hosts ≡ f.hosts
book_hosts f moment (Book slot host) book =
    let now = moment_of f moment in
    rest_hosts (Book slot host) (acted f (record { moment = moment; act = Book slot host }))
    ∙ proc_hosts (at_moment f now) slot (new_proc (at_moment f now) slot host now)
book_hosts f moment other book = absurd book

books_hosts : (f : Farm) (es : List Entry) → AreBooks es → (run_of f es).hosts ≡ f.hosts
books_hosts f [] books = refl
books_hosts f (e ∷ es) books = books_hosts (after f e) es books.1 ∙ book_hosts f e.moment e.act books.0

heard_hosts : (f : Farm) (act : HeardAct) (moment host : ℕ) (o : Option ℕ) → o ≡ Some host
    → (after_heard f act moment o).hosts ≡ changed_at f.hosts host (heard_row act.seq moment)
heard_hosts f act moment host None is = absurd (none-some host is)
heard_hosts f act moment host (Some other) is =
    ends_hosts (record f { hosts = changed_at f.hosts other (heard_row act.seq moment) }) other act.boot act.done
    ∙ ap (λ (place : ℕ). changed_at f.hosts place (heard_row act.seq moment)) (same_Some other host is)

-- the host's row after the report
row_after : (f : Farm) (act : HeardAct) (moment host : ℕ) (row : HostRow) → host_named f act.host ≡ Some host → slice_get f.hosts host ≡ Some row
    → (later : HostRow) × (slice_get (after f (record { moment = moment; act = Heard act })).hosts host ≡ Some later) × (later.seq ≡ act.seq)
row_after f act moment host row named there =
    let now = moment_of f moment in
    let expired = expire (at_moment f now) now in
    let mid : slice_get expired.hosts host ≡ Some (silenced_row now row) =
    slice_get-map (silenced_row now) f.hosts host ∙ ap (option_map (silenced_row now)) there in
    let hosts : (after f (record { moment = moment; act = Heard act })).hosts ≡ changed_at expired.hosts host (heard_row act.seq now) =
    rest_hosts (Heard act) (acted f (record { moment = moment; act = Heard act })) ∙ heard_hosts expired act now host (host_named f act.host) named in (
      heard_row act.seq now (silenced_row now row),
      ap (λ (rows : List HostRow). slice_get rows host) hosts ∙ changed_at_same expired.hosts host (heard_row act.seq now) (silenced_row now row) mid,
      refl,
    )

-- ---- the report

seq_below : (f : Farm) (act : HeardAct) (host : ℕ) (o : Option HostRow) → slice_get f.hosts host ≡ o → row_refusal act.host act.boot act.seq o ≡ None
    → (row : HostRow) × (slice_get f.hosts host ≡ Some row) × (nat_lt row.seq act.seq ≡ true)
seq_below f act host None there none = absurd (none-some (Unknown act.host) (sym none))
seq_below f act host (Some row) there none = by (eqb row.boot act.boot) none
  where
    last : (b : Bool) → nat_lt row.seq act.seq ≡ b → cond b None (Some (Stale row.seq)) ≡ None → nat_lt row.seq act.seq ≡ true
    last true is left = is
    last false is left = absurd (none-some (Stale row.seq) (sym left))

    by : (b : Bool) → cond b (cond (nat_lt row.seq act.seq) None (Some (Stale row.seq))) (Some (WrongBoot row.boot)) ≡ None
        → (row : HostRow) × (slice_get f.hosts host ≡ Some row) × (nat_lt row.seq act.seq ≡ true)
    by true left = (row, there, last (nat_lt row.seq act.seq) refl left)
    by false left = absurd (none-some (WrongBoot row.boot) (sym left))

-- the farm is another one after it, whatever is booked then
pub report_differs : (f : Farm) (act : HeardAct) (moment host : ℕ) (es : List Entry) → host_named f act.host ≡ Some host
    → host_refusal f act (host_named f act.host) ≡ None → AreBooks es
    → f ≡ run_of (after f (record { moment = moment; act = Heard act })) es → ⊥
report_differs f act moment host es named accepted books same =
    let found = seq_below f act host (slice_get f.hosts host) refl (ap (host_refusal f act) (sym named) ∙ accepted) in
    let now = row_after f act moment host found.0 named found.1 in
    let hosts : f.hosts ≡ (after f (record { moment = moment; act = Heard act })).hosts =
    ap (λ (g : Farm). g.hosts) same ∙ books_hosts (after f (record { moment = moment; act = Heard act })) es books in
    let rows : found.0 ≡ now.0 = same_Some found.0 now.0 (sym found.1 ∙ (ap (λ (rows : List HostRow). slice_get rows host) hosts ∙ now.1)) in
    let seqs : found.0.seq ≡ act.seq = ap (λ (r : HostRow). r.seq) rows ∙ now.2 in
    let below : found.0.seq < act.seq = ltb-true found.0.seq act.seq found.2 in
    absurd (omega (arith, below, seqs))
