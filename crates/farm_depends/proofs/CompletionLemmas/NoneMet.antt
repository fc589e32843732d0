-- Where no frame is done, nothing is met.
use Rattle.std.proofs.Common.{◌≡◌, ℕ, List, [], Ok, Err, ap, sym, subst}
use Rattle.std.specs.Prelude.{IfOk, Result}
use Rattle.farm_types.specs.declared.entry.FramePlace.{FramePlace}
use Rattle.farm_types.specs.declared.fault.FarmFault.{FarmFault}
use Rattle.farm_types.specs.declared.fault.FarmFault.TheVariants.{Refused, NoMemory}
use Rattle.depend_graph.specs.Graph.{GraphLists, HasMet, no_marks, with_all_done}
use Rattle.depend_graph.specs.declared.trials.marks.Marks.{Marks}
use Rattle.depend_graph.proofs.TrialLemmas.NothingOpens.{same_met}
use Rattle.farm_books.specs.Books.{FarmBooks}
use Rattle.farm_depends.specs.Follow.{HasMarks}
use Rattle.farm_depends.specs.Retrying.{Retries}
use Rattle.farm_depends.specs.declared.follow.Follow.{Follow}

pub none_met : (g : GraphLists) (done : List ℕ) (marks : Marks) → done ≡ [] → marks ≡ no_marks → HasMet g.depends (with_all_done g done).depends marks
none_met g done marks none is =
    subst (HasMet g.depends (with_all_done g done).depends) (sym is)
    (subst (λ (slots : List ℕ). HasMet g.depends (with_all_done g slots).depends no_marks) (sym none) (same_met g.depends))

-- a frame that is retried
pub retry_met : (v : FarmBooks) (place : FramePlace) (result : Result Follow FarmFault) → Retries v place result → IfOk result (HasMarks v.graph)
retry_met v place (Ok w) retries = none_met v.graph w.done w.marks (ap (λ (x : Follow). x.done) retries.2) (ap (λ (x : Follow). x.marks) retries.2)
retry_met v place (Err (Refused why)) retries = tt
retry_met v place (Err NoMemory) retries = tt
