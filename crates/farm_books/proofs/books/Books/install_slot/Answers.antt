use Rattle.std.proofs.Common.{rules, ◌≡◌, ◌∙◌, ◌≤◌, ℕ, Bool, List, Option, Some, None, ap, length, subst, sym}
use Rattle.std.specs.Prelude.{is_some}
use Rattle.std.specs.List.{list_all, slice_set}
use Rattle.farm_types.specs.declared.attempt.ProcRow.{ProcRow}
use Rattle.farm_types.specs.declared.limits.TheConstants.{SLOT_LIMIT}
use Rattle.farm_types.specs.Jobs.{JobLists}
use Rattle.farm_types.specs.Run.{live_at}
use Rattle.attempt_book.specs.Book.{AttemptLists, CanBegin}
use Rattle.limit_book.specs.Book.{LimitLists}
use Rattle.farm_books.specs.Books.{FarmBooks}
use Rattle.farm_books.specs.declared.books.Books.TheInside.{Inside}
use Rattle.farm_books.specs.Inside.{is_framed}
use Rattle.farm_books.specs.Install.{CanInstall, procs_of}
use Rattle.farm_books.specs.Limits.{CanCount, CountsRunning, limit_of, recounted}
use Rattle.farm_books.proofs.CountedLimits.{can_count, installed_framed, recounts}
use Rattle.farm_books.proofs.SlotAttempts.{installed_procs, may_begin, slice_set-twice}
use Rattle.farm_books.proofs.books.Books.install_slot.Goals as goal
use Rattle.farm_books.proofs.books.Books.install_slot.Goals.{in-Some, in_default}

pub recount-requires : goal.recount-requires
recount-requires c =
    let a = c.self.inside in
    let can = subst (λ (v : FarmBooks). CanInstall v.farm.subs v.farm.slots c.args.slot c.args.row.now) (sym c.self.view_is) c.requires in
    let ran = ap (λ (v : FarmBooks). is_some (live_at v.farm c.args.slot)) c.self.view_is ∙ sym c.has_attempt-ran.ensures.value in
    let few : length a.jobs.slots ≤ SLOT_LIMIT = subst (λ (v : FarmBooks). length v.farm.slots ≤ SLOT_LIMIT) (sym c.self.view_is) c.has_attempt-ran.ensures.count in
    let runs : c.is_some.result ≡ is_some c.args.row.now.proc = search rules in
    subst (λ (b : Bool). CanCount a.limits c.limit_of-limit.result c.has_attempt-ran.result b) (sym runs)
    (subst (λ (o : Option ℕ). CanCount a.limits o c.has_attempt-ran.result (is_some c.args.row.now.proc)) (sym c.limit_of-limit.ensures)
    (can_count a.jobs.layers a.jobs.slots c.args.slot c.args.row.now can.keeps a.limits c.self.invariant.running c.has_attempt-ran.result ran few))

pub begin-requires : goal.begin-requires
begin-requires c =
    let a = c.self.inside in
    let can = subst (λ (v : FarmBooks). CanInstall v.farm.subs v.farm.slots c.args.slot c.args.row.now) (sym c.self.view_is) c.requires in
    subst (λ (b : AttemptLists). CanBegin b c.args.slot c.in-Some.proc) (sym c.end.ensures)
    (may_begin a.attempts a.jobs.slots c.args.slot c.args.row.now c.in-Some.proc c.self.invariant.attempts_are can c.in-Some.is)

pub invariant_of-self : goal.invariant_of-self
invariant_of-self c =
    let a = c.self.inside in
    let b = c.match-row.self-inside in
    let slot = c.args.slot in
    let row = c.args.row.now in
    let can = subst (λ (v : FarmBooks). CanInstall v.farm.subs v.farm.slots slot row) (sym c.self.view_is) c.requires in
    let ended : c.end.new.self.procs ≡ slice_set a.attempts.procs slot None = ap (λ (x : AttemptLists). x.procs) c.end.ensures in
    let jobs : b.jobs ≡ a.jobs = elim c.match-row.branch [ in-Some w ↦ ap (λ (x : Inside). x.jobs) w.self-inside-is | in_default w ↦ ap (λ (x : Inside). x.jobs) w.self-inside-is ] in
    let procs : b.attempts.procs ≡ slice_set a.attempts.procs slot row.proc =
    elim c.match-row.branch [
      | in-Some w ↦
          ap (λ (x : Inside). x.attempts.procs) w.self-inside-is
          ∙ ap (λ (x : AttemptLists). x.procs) w.begin.ensures
          ∙ ap (λ (ps : List (Option ProcRow)). slice_set ps slot (Some w.in-Some.proc)) ended
          ∙ slice_set-twice a.attempts.procs slot None (Some w.in-Some.proc)
          ∙ ap (slice_set a.attempts.procs slot) (sym w.in-Some.is)
      | in_default w ↦ ap (λ (x : Inside). x.attempts.procs) w.self-inside-is ∙ ended ∙ ap (slice_set a.attempts.procs slot) (sym w.in_default.is)
    ] in
    let ran = ap (λ (v : FarmBooks). is_some (live_at v.farm slot)) c.self.view_is ∙ sym c.has_attempt-ran.ensures.value in
    let few : length a.jobs.slots ≤ SLOT_LIMIT = subst (λ (v : FarmBooks). length v.farm.slots ≤ SLOT_LIMIT) (sym c.self.view_is) c.has_attempt-ran.ensures.count in
    let runs : c.is_some.result ≡ is_some row.proc = search rules in
    let counted : c.recount.new.limits ≡ recounted a.limits (limit_of a.jobs.layers row.frame) c.has_attempt-ran.result (is_some row.proc) =
    c.recount.ensures.counts ∙ (ap (λ (b : Bool). recounted a.limits c.limit_of-limit.result c.has_attempt-ran.result b) runs
    ∙ ap (λ (o : Option ℕ). recounted a.limits o c.has_attempt-ran.result (is_some row.proc)) c.limit_of-limit.ensures) in
    let limits : b.limits ≡ recounted a.limits (limit_of a.jobs.layers row.frame) c.has_attempt-ran.result (is_some row.proc) =
    elim c.match-row.branch [ in-Some w ↦ ap (λ (x : Inside). x.limits) w.self-inside-is ∙ counted | in_default w ↦ ap (λ (x : Inside). x.limits) w.self-inside-is ∙ counted ] in
    let now : c.set_row.new.self ≡ record a.jobs { slots = slice_set a.jobs.slots slot row } = c.set_row.ensures ∙ ap (λ (x : JobLists). record x { slots = slice_set x.slots slot row }) jobs in
    let places = can_count a.jobs.layers a.jobs.slots slot row can.keeps a.limits c.self.invariant.running c.has_attempt-ran.result ran few in
    record {
      attempts_are = procs ∙ installed_procs a.attempts.procs a.jobs.slots slot row c.self.invariant.attempts_are ∙ sym (ap (λ (x : JobLists). procs_of x.slots) now);
      framed = ap (λ (x : JobLists). list_all is_framed x.slots) now ∙ installed_framed a.jobs.layers a.jobs.slots slot row can.keeps c.self.invariant.framed;
      running =
          subst (λ (x : JobLists). CountsRunning b.limits x.layers x.slots) (sym now)
          (subst (λ (x : LimitLists). CountsRunning x a.jobs.layers (slice_set a.jobs.slots slot row)) (sym limits)
          (recounts a.jobs.layers a.jobs.slots slot row can.keeps a.limits c.self.invariant.running c.has_attempt-ran.result ran c.recount.ensures.each places));
    }
