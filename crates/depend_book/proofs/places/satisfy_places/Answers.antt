use Rattle.std.proofs.Common.{◌≡◌, ◌∙◌, ℕ, zero, suc, ◌+◌, ◌<◌, List, [], ◌∷◌, drop, get_or, length, map, refl, sym, ap, subst, arith}
use Rattle.farm_types.specs.Rising.{IsRising}
use Rattle.depend_book.specs.declared.row_list.RowPlace.{RowPlace}
use Rattle.depend_book.specs.Rows.{met_place, place_key, satisfied_place, satisfied_places}
use Rattle.depend_book.proofs.PlaceChanged.{rising_changed}
use Rattle.depend_book.proofs.places.satisfy_places.Goals as goal

-- the number at a place is the next of those that are left
next_marked : (ns : List ℕ) (i n : ℕ) (rows : List RowPlace) → i < length ns → n ≡ get_or ns i n
    → satisfied_places (drop (i + 1) ns) (map (satisfied_place n) rows) ≡ satisfied_places (drop i ns) rows
next_marked [] i n rows within at = absurd (omega arith)
next_marked (m ∷ ms) zero n rows within at = ap (λ (k : ℕ). satisfied_places ms (map (satisfied_place k) rows)) at
next_marked (m ∷ ms) (suc i) n rows within at =
    let later : suc i + 1 ≡ suc (i + 1) = omega arith in
    rw later (next_marked ms i n rows (omega arith) at)

pub loop-depend-preserved : goal.loop-depend-preserved
loop-depend-preserved c =
    let ns = c.args.depends.now in
    let rows = c.loop-depend.places.items in
    let n = c.depend-item.result in
    let i = c.loop-depend.depend-index in
    let so_far = c.loop-depend.invariant in
    let next = next_marked ns i n rows (omega arith) c.depend-item.is in (
      ap (satisfied_places (drop (i + 1) ns)) c.satisfy.ensures.items ∙ next ∙ so_far.0,
      c.satisfy.ensures.capacity ∙ so_far.1,
      (so_far.2.0, subst (λ (ds : List RowPlace). IsRising place_key 1 ds so_far.2.0) (sym c.satisfy.ensures.items) (rising_changed place_key met_place (λ x. refl) n 1 rows so_far.2.0 so_far.2.1)),
    )
