-- Rows that go behind the others, kind after kind.
use Rattle.std.proofs.Common.{◌≡◌, ◌++◌, ◌∷◌, ◌∙◌, List, append_assoc, map, ap}
use Rattle.farm_types.specs.Farm.{Farm}
use Rattle.farm_rows.specs.declared.farm_row.FarmRow.{FarmRow}
use Rattle.farm_rows.specs.declared.farm_row.FarmRow.TheVariants as row
use Rattle.farm_rows.specs.Rows.{head_row, numbered, recorded_rows, slot_rows}
use Rattle.farm_books.specs.Rows.{book_rows}

pub then_more : {X : Type 0} (old one both first second : List X) → both ≡ one ++ second → one ≡ old ++ first → both ≡ old ++ (first ++ second)
then_more old one both first second last before = last ∙ ap (λ xs. xs ++ second) before ∙ append_assoc old first second

seven : {X : Type 0} (a b c d e f g h k more : List X)
    → ((a ++ (b ++ (c ++ (d ++ (e ++ (f ++ g)))))) ++ (h ++ k)) ++ more ≡ a ++ (b ++ (c ++ (d ++ (e ++ (f ++ (g ++ (h ++ (k ++ more))))))))
seven a b c d e f g h k more = simp append_assoc

-- the farm's own row, the books' rows, those of depends and those of limits are all rows
pub recorded_are : (f : Farm) → row.Head (head_row f) ∷ ((book_rows f ++ (map row.Depend f.depends ++ map row.Met f.met)) ++ numbered row.Limit 0 f.limits) ≡ recorded_rows f
recorded_are f =
    ap (λ (rows : List FarmRow). row.Head (head_row f) ∷ rows)
    (seven (numbered row.Show 0 f.shows) (numbered row.Alloc 0 f.allocs) (map row.Sub f.subs) (numbered row.Host 0 f.hosts) (map row.Job f.jobs) (map row.Layer f.layers) (slot_rows 0 f.slots)
    (map row.Depend f.depends) (map row.Met f.met) (numbered row.Limit 0 f.limits))
