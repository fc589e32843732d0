use Rattle.std.proofs.Common.{◌/◌, ◌%◌, List, ℕ, slice_set, replicate, true, sym, subst, rules}
use Rattle.place_set.specs.Inside.{Counted}
use Rattle.place_set.proofs.Counts.{counted_full}
use Rattle.place_set.proofs.blocks.full_counts.Goals as goal

pub returns : goal.returns
returns c =
    let made = c.in_ok-counts.ensures.items_if_clones_equal (λ y h. search rules) in
    subst (λ (counts : List ℕ). Counted (replicate c.args.length true) (slice_set counts (c.args.length / 128) (c.args.length % 128))) (sym made) (counted_full c.args.length)
