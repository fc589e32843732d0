use Rattle.farm_depends.proofs.marks.no_marks.Goals as goal

pub returns : goal.returns
returns c = c.in_ok-vec.ensures.items_if_clones_equal (λ y h. h)
