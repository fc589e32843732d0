use Rattle.std.proofs.Common.{◌∙◌, ◌++◌, ℕ, List, map, ap}
use Rattle.job_index.specs.Names.{NameList}
use Rattle.job_index.proofs.TextNumbers.{copied, text_number}
use Rattle.job_index.proofs.job_names.JobNames.copy.Goals as goal

pub returns : goal.returns
returns c =
    let entries = c.self.inside.numbers.entries in
    ap (λ (ps : List (List ℕ × ℕ)). ps ++ c.in_ok-copies_of.field-0.items) (copied entries c.in_ok-clone.field-0.entries c.in_ok-clone.ensures.cases)
    ∙ ap (λ (ls : List (List ℕ × ℕ)). map text_number entries ++ ls) (c.in_ok-copies_of.ensures.items ∙ c.as_slice.ensures.value) ∙ ap (λ (l : NameList). l.pairs) c.self.view_is
