use Rattle.std.proofs.Common.{◌≡◌, ◌∙◌, ◌+◌, ◌∷◌, ℕ, List, drop, sym, ap, subst, arith}
use Rattle.std.proofs.lemmas.List.{drop_all, drop_more}
use Rattle.farm_types.specs.Step.{lists_of}
use Rattle.farm_books.specs.Books.{FarmBooks}
use Rattle.farm_finish.specs.Finishing.{CanFinishAll, all_finished}
use Rattle.farm_finish.proofs.applying.finish_each.Goals as goal

pub finish_one-requires : goal.finish_one-requires
finish_one-requires c =
    let l = c.loop-job in
    let jobs = c.args.jobs.now in
    let job = c.job-item.result in
    let more : drop l.job-index jobs ≡ job ∷ drop (l.job-index + 1) jobs = drop_more jobs l.job-index job (omega arith) ∙ ap (λ (n : ℕ). n ∷ drop (l.job-index + 1) jobs) (sym c.job-item.is) in
    (subst (CanFinishAll (lists_of l.books.farm)) more l.invariant.can).0

pub loop-job-preserved : goal.loop-job-preserved
loop-job-preserved c =
    let l = c.loop-job in
    let jobs = c.args.jobs.now in
    let job = c.job-item.result in
    let more : drop l.job-index jobs ≡ job ∷ drop (l.job-index + 1) jobs = drop_more jobs l.job-index job (omega arith) ∙ ap (λ (n : ℕ). n ∷ drop (l.job-index + 1) jobs) (sym c.job-item.is) in
    let rest = drop (l.job-index + 1) jobs in
    record {
      can = subst (λ (v : FarmBooks). CanFinishAll (lists_of v.farm) rest) (sym c.finish_one.ensures) (subst (CanFinishAll (lists_of l.books.farm)) more l.invariant.can).1;
      put = ap (all_finished rest) c.finish_one.ensures ∙ (ap (λ (js : List ℕ). all_finished js l.books) (sym more) ∙ l.invariant.put);
    }

pub returns : goal.returns
returns c =
    let l = c.loop-job in
    ap (λ (js : List ℕ). all_finished js l.books) (sym (drop_all l.job-index c.args.jobs.now (omega arith))) ∙ l.invariant.put
