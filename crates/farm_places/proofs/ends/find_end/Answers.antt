use Rattle.std.proofs.Common.{◌≡◌, ◌∙◌, Err, None, Some, List, Option, ℕ, option_map, sym, ap, subst}
use Rattle.std.specs.List.{find}
use Rattle.std.specs.Prelude.{Result}
use Rattle.std.proofs.lemmas.Result.{err_from_is_err_and}
use Rattle.farm_types.specs.declared.rows.JobRow.{JobRow}
use Rattle.farm_types.specs.DependActs.{pending_named}
use Rattle.farm_types.specs.Depends.{shape_in, shape_of}
use Rattle.farm_types.specs.Jobs.{JobLists, is_pending_named}
use Rattle.farm_types.specs.declared.fault.FarmFault.{FarmFault}
use Rattle.farm_places.specs.declared.ends.FoundEnd.{FoundEnd}
use Rattle.farm_types.specs.Faults.{Refuses}
use Rattle.farm_places.specs.Ends.{FindsEnd, ShowsPart, shape_refusal}
use Rattle.farm_places.proofs.ShownParts.{fault_finds, missing_finds, pending_is, refusal_shown}
use Rattle.farm_places.proofs.ends.find_end.Goals as goal

abbrev number : Option JobRow → Option ℕ
number o = option_map (λ (j : JobRow). j.job) o

pub returns-in_default : goal.returns-in_default
returns-in_default c =
    let f = c.args.books.now.farm in
    let place = c.args.place.now in
    let none : None ≡ number (pending_named f place.job) =
    c.in_default.ensures ∙ (ap (λ (b : JobLists). number (find (is_pending_named c.as_str.result.now) b.jobs)) c.jobs-jobs.ensures ∙ ap (λ (name : List ℕ). number (find (is_pending_named name) f.jobs)) c.as_str.ensures) in
    missing_finds f place c.jobs-jobs.result.now c.missing.result c.jobs-jobs.ensures none c.missing.ensures

pub returns-in_err-check_part : goal.returns-in_err-check_part
returns-in_err-check_part c =
    let p = err_from_is_err_and c.from_residual-in_err-check_part.result c.from_residual-in_err-check_part.ensures.1 in
    let f = c.args.books.now.farm in
    let place = c.args.place.now in
    let job = c.in-Some.job in
    let shape = c.in_ok-shape.shape in
    let found : Some job ≡ number (pending_named f place.job) =
    c.in-Some.ensures ∙ (ap (λ (b : JobLists). number (find (is_pending_named c.as_str.result.now) b.jobs)) c.jobs-jobs.ensures ∙ ap (λ (name : List ℕ). number (find (is_pending_named name) f.jobs)) c.as_str.ensures) in
    let shows : ShowsPart (shape_of f job) shape place.layer = subst (λ (b : JobLists). ShowsPart (shape_in b.layers b.slots job) shape place.layer) c.jobs-jobs.ensures c.in_ok-shape.ensures in
    let refusal = shape_refusal shape place.layer place.frame in
    let refused = subst (λ (e : FarmFault). Refuses {X = Unit {0}} refusal (Err e)) (sym p.2) c.in_err-check_part.ensures in
    subst (λ (r : Result FoundEnd FarmFault). FindsEnd f place r) (sym p.1) (fault_finds (Unit {0}) f place refusal p.0 (refusal_shown f place job shape (pending_is f place job found) shows) refused)

pub returns : goal.returns
returns c =
    let f = c.args.books.now.farm in
    let place = c.args.place.now in
    let job = c.in-Some.job in
    let shape = c.in_ok-shape.shape in
    let found : Some job ≡ number (pending_named f place.job) =
    c.in-Some.ensures ∙ (ap (λ (b : JobLists). number (find (is_pending_named c.as_str.result.now) b.jobs)) c.jobs-jobs.ensures ∙ ap (λ (name : List ℕ). number (find (is_pending_named name) f.jobs)) c.as_str.ensures) in
    let shows : ShowsPart (shape_of f job) shape place.layer = subst (λ (b : JobLists). ShowsPart (shape_in b.layers b.slots job) shape place.layer) c.jobs-jobs.ensures c.in_ok-shape.ensures in
    let pending = pending_is f place job found in
    record {
      accepted = refusal_shown f place job shape pending shows ∙ c.in_ok-check_part.ensures;
      end_is = c.in_ok-end.ensures ∙ ap (λ (n : ℕ). record { job = n; layer = place.layer; frame = place.frame }) (sym pending.number);
      shows = subst (λ (n : ℕ). ShowsPart (shape_of f n) shape place.layer) (sym pending.number) shows;
    }
