use Rattle.std.proofs.Common.{ap, ◌∙◌, ℕ, List, slice_index}
use Rattle.booking_rule.proofs.First.{opens}
use Rattle.booking_table.proofs.table.Table.make.Goals as goal

pub of_words-requires : goal.of_words-requires
of_words-requires c = (
  c.as_slice.ensures.len ∙ c.in_ok-zeros.ensures.0,
  opens _ (λ k. ap (λ (l : List ℕ). slice_index l k) c.as_slice.ensures.value ∙ c.in_ok-zeros.ensures.1 k) c.legal_runs_keep_farms.ensures.empty,
)
