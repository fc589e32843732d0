use Rattle.std.proofs.Common.{◌≡◌, ◌+◌, ◌-◌, ◌∙◌, ◌++◌, ℕ, List, suc, ap, sym, arith}
use Rattle.job_book.specs.Lowest.{places_from}
use Rattle.job_book.proofs.PlacementLemmas.FreePlaces.{unused_more}
use Rattle.job_book.proofs.placement.free_places.add_unused.Goals as goal

pub loop-place-preserved : goal.loop-place-preserved
loop-place-preserved c =
    let i = c.loop-place.place in
    let more = c.args.count - c.len.result in
    let places = c.loop-place.places.items in
    let left : c.args.first + more - i ≡ suc (c.args.first + more - (i + 1)) = omega arith in
    ap (λ (ns : List ℕ). ns ++ places_from (i + 1) (c.args.first + more - (i + 1))) c.in_ok-push.ensures.items
    ∙ unused_more places i (c.args.first + more - (i + 1)) (c.args.places.now.items ++ places_from c.args.first more) (ap (λ (n : ℕ). places ++ places_from i n) (sym left) ∙ c.loop-place.invariant)
