use Rattle.stored_farm.proofs.flags.no_flags.Goals as goal

pub returns : goal.returns
returns c = c.in_ok-vec.ensures.items_if_clones_equal (λ y h. h)
