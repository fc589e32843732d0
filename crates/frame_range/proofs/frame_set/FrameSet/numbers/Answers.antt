use Rattle.std.proofs.Common.{◌∙◌, ◌<◌, length, sym, subst, List, ℤ}
use Rattle.std.specs.List.{IsDistinct}
use Rattle.std.specs.Ordering.{int_eq}
use Rattle.frame_range.proofs.DistinctLemmas.{numbers_distinct, numbers_some}
use Rattle.frame_range.proofs.frame_set.FrameSet.numbers.Goals as goal

pub returns-clause-distinct : goal.returns-clause-distinct
returns-clause-distinct c =
    subst (λ (l : List ℤ). IsDistinct int_eq l) (sym (c.numbers.ensures.value ∙ c.self.invariant.1)) (numbers_distinct c.self.inside.sections.items)

pub returns-clause-some : goal.returns-clause-some
returns-clause-some c =
    subst (λ (l : List ℤ). 0 < length l) (sym (c.numbers.ensures.value ∙ c.self.invariant.1)) (numbers_some c.self.inside.sections.items c.self.invariant.0)
