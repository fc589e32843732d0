-- The book after a change of its graph by which depends keep their numbers and groups, and stay satisfied.
use Rattle.std.proofs.Common.{◌≡◌, ℕ, zero, suc, ◌+◌, ◌≤◌, Bool, true, false, cond, List, [], ◌∷◌, map, length, Some, refl, sym, ap, subst, ◌∙◌, arith}
use Rattle.std.specs.List.{AllZip, slice_get}
use Rattle.std.proofs.lemmas.Bool.{false≢true}
use Rattle.std.proofs.lemmas.List.{length-map}
use Rattle.std.proofs.lemmas.Option.{none-some, same_Some}
use Rattle.farm_types.specs.declared.depend.DependRow.{DependRow}
use Rattle.farm_types.specs.declared.limits.TheConstants.{MOST_DEPENDS, SLOT_LIMIT}
use Rattle.farm_types.specs.Depends.{groups_of}
use Rattle.farm_types.specs.Farm.{Farm}
use Rattle.farm_types.specs.Rising.{IsRising, depend_key}
use Rattle.depend_graph.specs.Graph.{GraphLists, Watch, groups_left, is_satisfied, with_all_done, with_done}
use Rattle.depend_book.specs.Book.{DependLists, IsBook, all_done_in, done_in, row_of, rows_of, watch_number, with_graph}
use Rattle.depend_book.specs.Fits.{Fits, group_in}
use Rattle.farm_depends.proofs.CompletionLemmas.Flags.{depends_after, watch_after}
use Rattle.depend_book.proofs.Pairs.{row_at}
use Rattle.depend_book.proofs.Zips.{zip_left, zip_map-alike, zip_sum-less}

-- ---- rows

-- what the rows said before doesn't matter
pub rows_twice : (ds : List DependRow) (vs ws : List Watch) → length vs ≡ length ws → rows_of (rows_of ds vs) ws ≡ rows_of ds ws
rows_twice [] vs ws same = refl
rows_twice (d ∷ ds) [] ws same = refl
rows_twice (d ∷ ds) (v ∷ vs) [] same = absurd (omega arith)
rows_twice (d ∷ ds) (v ∷ vs) (w ∷ ws) same = ap (λ (es : List DependRow). row_of d w ∷ es) (rows_twice ds vs ws (omega arith))

keys_stay : (ds : List DependRow) (ws : List Watch) → map depend_key (rows_of ds ws) ≡ map depend_key ds
keys_stay [] ws = refl
keys_stay (d ∷ ds) [] = refl
keys_stay (d ∷ ds) (w ∷ ws) = ap (λ (ns : List ℕ). d.depend ∷ ns) (keys_stay ds ws)

rows_rise : (low : ℕ) (ds : List DependRow) (ws : List Watch) (high : ℕ) → IsRising depend_key low ds high → IsRising depend_key low (rows_of ds ws) high
rows_rise low [] ws high rise = rise
rows_rise low (d ∷ ds) [] high rise = rise
rows_rise low (d ∷ ds) (w ∷ ws) high rise = (rise.0, rows_rise (d.depend + 1) ds ws high rise.1)

length-rows_of : (ds : List DependRow) (ws : List Watch) → length (rows_of ds ws) ≡ length ds
length-rows_of [] ws = refl
length-rows_of (d ∷ ds) [] = refl
length-rows_of (d ∷ ds) (w ∷ ws) = ap suc (length-rows_of ds ws)

-- the row at a place
pub row_was : (ds : List DependRow) (ws : List Watch) (i : ℕ) (e : DependRow) (w : Watch) → slice_get (rows_of ds ws) i ≡ Some e → slice_get ws i ≡ Some w → (d : DependRow) × (slice_get ds i ≡ Some d) × (row_of d w ≡ e)
row_was [] ws i e w row watch = absurd (none-some e row)
row_was (d ∷ ds) [] i e w row watch = absurd (none-some w watch)
row_was (d ∷ ds) (v ∷ vs) zero e w row watch = (d, refl, ap (row_of d) (sym (same_Some v w watch)) ∙ same_Some (row_of d v) e row)
row_was (d ∷ ds) (v ∷ vs) (suc i) e w row watch = row_was ds vs i e w row watch

-- ---- the book

-- the depend has its number and groups, and is satisfied where it was
pub record Advances (w v : Watch) : Type 0 where
  pub number : w.depend ≡ v.depend
  pub groups : map group_in w.groups ≡ map group_in v.groups
  pub satisfied : is_satisfied w ≡ true → is_satisfied v ≡ true

left_less : (a c : Bool) (x y : ℕ) → x ≡ y → (a ≡ true → c ≡ true) → cond c 0 y ≤ cond a 0 x
left_less true true x y same more = omega arith
left_less true false x y same more = absurd (false≢true (more refl))
left_less false true x y same more = omega arith
left_less false false x y same more = omega (arith, same)

as_many : (w v : Watch) → Advances w v → length w.groups ≡ length v.groups
as_many w v a = sym (length-map w.groups group_in) ∙ (ap length a.groups ∙ length-map v.groups group_in)

pub left_after : (ws vs : List Watch) → AllZip Advances ws vs → groups_left vs ≤ groups_left ws
left_after ws vs zip =
    zip_sum-less Advances (λ (w : Watch). cond (is_satisfied w) 0 (length w.groups)) (λ (w : Watch). cond (is_satisfied w) 0 (length w.groups))
    (λ w v a. left_less (is_satisfied w) (is_satisfied v) (length w.groups) (length v.groups) (as_many w v a) a.satisfied) ws vs zip

-- such a change leaves a book
pub book_after : (b : DependLists) (g : GraphLists) → IsBook b → AllZip Advances b.graph.depends g.depends → length g.done ≡ SLOT_LIMIT → IsBook (with_graph b g)
book_after b g book zip flags =
    record {
      flags = flags;
      numbers = keys_stay b.rows g.depends ∙ (book.numbers ∙ zip_map-alike Advances watch_number watch_number (λ w v a. a.number) b.graph.depends g.depends zip);
      rows_are = rows_twice b.rows g.depends g.depends refl;
      rise = rows_rise 1 b.rows g.depends b.next book.rise;
      next_within = book.next_within;
      count = subst (λ (n : ℕ). n ≤ MOST_DEPENDS) (sym (length-rows_of b.rows g.depends)) book.count;
      groups_within = omega (arith, left_after b.graph.depends g.depends zip, book.groups_within);
    }

-- the groups of a depend, whether it is satisfied or not
pub groups_said : (f : Farm) (d : DependRow) (met : Bool) → groups_of f (record d { met_all = met }) ≡ groups_of f d
unfolding groups_of
groups_said f d met = refl

unmet_before : (a c : Bool) → (a ≡ true → c ≡ true) → c ≡ false → a ≡ false
unmet_before true c more is = absurd (false≢true (sym is ∙ more refl))
unmet_before false c more is = refl

-- its depends that aren't satisfied have their groups, in a farm where those stay
pub groups_after : (f0 f : Farm) (b : DependLists) (g : GraphLists) → IsBook b → Fits f0 b → ((i : ℕ) (d : DependRow) → slice_get b.rows i ≡ Some d → d.met_all ≡ false → groups_of f d ≡ groups_of f0 d)
    → AllZip Advances b.graph.depends g.depends
    → (i : ℕ) (e : DependRow) (v : Watch) → slice_get (rows_of b.rows g.depends) i ≡ Some e → slice_get g.depends i ≡ Some v → e.met_all ≡ false → map group_in v.groups ≡ groups_of f e
groups_after f0 f b g book fits stay zip i e v row watch unmet =
    let was = row_was b.rows g.depends i e v row watch in
    let old = zip_left Advances b.graph.depends g.depends zip i v watch in
    let found = row_at f0 b book fits i old.0 old.1 in
    let same : found.0 ≡ was.0 = same_Some found.0 was.0 (sym found.1 ∙ was.1) in
    let left : is_satisfied v ≡ false = ap (λ (d : DependRow). d.met_all) was.2 ∙ unmet in
    let before : is_satisfied old.0 ≡ false = unmet_before (is_satisfied old.0) (is_satisfied v) old.2.satisfied left in
    let open_row : found.0.met_all ≡ false = found.2.all ∙ before in
    sym old.2.groups
    ∙ (found.2.groups open_row
    ∙ (sym (stay i found.0 found.1 open_row)
    ∙ (ap (groups_of f) same
    ∙ (sym (groups_said f was.0 (is_satisfied v)) ∙ ap (groups_of f) was.2))))

-- ---- frames that are done

as_long : (g : GraphLists) (done : List ℕ) → length g.depends ≡ length (with_all_done g done).depends
as_long g done = sym (ap length (depends_after g done) ∙ length-map g.depends (watch_after g.done done))

done_by : (b : DependLists) (done : List ℕ) → rows_of b.rows b.graph.depends ≡ b.rows → all_done_in b done ≡ with_graph b (with_all_done b.graph done)
done_by b [] rows = ap (λ (ds : List DependRow). record b { rows = ds }) (sym rows)
done_by b (s ∷ ss) rows =
    let g = with_done b.graph s true in
    done_by (done_in b s true) ss (rows_twice b.rows g.depends g.depends refl)
    ∙ ap (λ (ds : List DependRow). record b { rows = ds; graph = with_all_done g ss }) (rows_twice b.rows g.depends (with_all_done g ss).depends (as_long g ss))

-- one after the other, as the graph at once
pub all_done_is : (b : DependLists) (done : List ℕ) → IsBook b → all_done_in b done ≡ with_graph b (with_all_done b.graph done)
all_done_is b done book = done_by b done book.rows_are
