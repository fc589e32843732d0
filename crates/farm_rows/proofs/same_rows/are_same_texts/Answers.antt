use Rattle.std.proofs.Common.{rules, arith, ◌≡◌, ◌∙◌, ◌<◌, ◌++◌, ◌∷◌, [], get_or, length, sym}
use Rattle.std.proofs.lemmas.List.{take_more}
use Rattle.std.proofs.lemmas.Slice.Eq.{bytes_eq-Decides}
use Rattle.farm_rows.proofs.same_rows.are_same_texts.Goals as goal

pub loop-place-preserved : goal.loop-place-preserved
loop-place-preserved c =
    let xs = c.args.one.now in
    let ys = c.args.other.now in
    let i = c.loop-place.place in
    let x = c.index-one-place.result in
    let y = c.index-other-place.result in
    let same : x ≡ y = (bytes_eq-Decides x y).0 (search rules) in
    let long : length xs ≡ length ys = search rules in
    let below : i < length xs = search (rules, arith) in
    let first : x ≡ get_or xs i x = c.index-one-place.is in
    let second : y ≡ get_or ys i y = c.index-other-place.is in
    take_more xs i x below ∙ ((λ k. c.loop-place.invariant k ++ (sym first ∙ same ∙ second) k ∷ []) ∙ sym (take_more ys i y (omega (arith, long, below))))
