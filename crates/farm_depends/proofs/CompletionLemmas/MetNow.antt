-- The farm in which each group is marked that is met now, from a graph that has these groups as met.
use Rattle.std.proofs.Common.{◌≡◌, ℕ, Bool, true, false, cond, not, ◌&&◌, ◌||◌, List, [], ◌∷◌, ◌++◌, map, Some, refl, sym, ap, ◌∙◌, option_map, true≢false}
use Rattle.std.specs.List.{AllZip, filter, list_all, list_any, slice_get}
use Rattle.std.proofs.lemmas.Bool.{false≢true, or_left, or_parts, or_right}
use Rattle.std.proofs.lemmas.Option.{same_Some, slice_get-map}
use Rattle.farm_types.specs.declared.depend.DependRow.{DependRow}
use Rattle.farm_types.specs.declared.depend.Group.{Group}
use Rattle.farm_types.specs.Depends.{are_done, groups_of, is_done, is_met}
use Rattle.farm_types.specs.Farm.{Farm}
use Rattle.farm_types.specs.Settle.{is_met_now, met_row, met_rows, met_rows_of, settled_row, with_met}
use Rattle.depend_graph.specs.Graph.{Watch, Watched, is_satisfied}
use Rattle.depend_graph.specs.Graph as graph
use Rattle.depend_book.specs.Book.{DependLists, IsBook, joined, mark_of, marks_in, marks_of, rows_of}
use Rattle.depend_law.proofs.Marks.{marked_rows, marks}
use Rattle.depend_law.proofs.MetAgain.{positions_rise}
use Rattle.depend_book.specs.Fits.{Fits}
use Rattle.depend_book.proofs.Marked.{marked_is}
use Rattle.depend_book.proofs.Pairs.{IsPair, group_at, groups_joined, pairs}
use Rattle.depend_book.proofs.Zips.{zip_all-alike, zip_at}

-- ---- what the graph has to say

-- the group, met where it is met now
pub record Tells (f : Farm) (d : DependRow) (g : Group) (x : Watched) : Type 0 where
  pub group : x.group ≡ g
  pub met : x.met ≡ is_met_now f d g

-- the depend's number, and its groups where it isn't satisfied
pub record Settles (f : Farm) (d : DependRow) (w : Watch) : Type 0 where
  pub number : w.depend ≡ d.depend
  pub satisfied : d.met_all ≡ true → is_satisfied w ≡ true
  pub groups : d.met_all ≡ false → AllZip (Tells f d) (groups_of f d) w.groups

module _ (f : Farm) (d : DependRow) (w : Watch) (s : Settles f d w) where
  all_by : (c : Bool) → d.met_all ≡ c → is_satisfied w ≡ (d.met_all || list_all (is_met_now f d) (groups_of f d))
  all_by true is = s.satisfied is ∙ sym (or_left d.met_all (list_all (is_met_now f d) (groups_of f d)) is)
  all_by false is =
      sym (ap (λ (b : Bool). b || list_all (is_met_now f d) (groups_of f d)) is
      ∙ zip_all-alike (Tells f d) (is_met_now f d) graph.is_met (groups_of f d) w.groups (s.groups is) (λ i g x left right t. sym t.met))

  -- the depend is satisfied where it is settled so
  all_told : is_satisfied w ≡ (settled_row f d).met_all
  all_told = all_by d.met_all refl

  marked_step : (b c : Bool) (x : Watched) (g : Group) (xs : List Watched) (gs : List Group) → b ≡ c → x.group ≡ g → map (mark_of w.depend) xs ≡ map (met_row d) gs
      → map (mark_of w.depend) (cond b (x ∷ xs) xs) ≡ map (met_row d) (cond c (g ∷ gs) gs)
  marked_step true true x g xs gs same group rest = λ i. record { depend = s.number i; position = (group i).position } ∷ rest i
  marked_step true false x g xs gs same group rest = absurd (true≢false same)
  marked_step false true x g xs gs same group rest = absurd (false≢true same)
  marked_step false false x g xs gs same group rest = rest

  marks_side : (gs : List Group) (xs : List Watched) → AllZip (Tells f d) gs xs → map (mark_of w.depend) (filter graph.is_met xs) ≡ map (met_row d) (filter (is_met_now f d) gs)
  marks_side [] [] zip = refl
  marks_side [] (x ∷ xs) zip = absurd zip
  marks_side (g ∷ gs) [] zip = absurd zip
  marks_side (g ∷ gs) (x ∷ xs) zip = marked_step x.met (is_met_now f d g) x g (filter graph.is_met xs) (filter (is_met_now f d) gs) zip.0.met zip.0.group (marks_side gs xs zip.1)

  marks_by : (c : Bool) → (settled_row f d).met_all ≡ c → marks_in w ≡ met_rows_of f d
  marks_by true is =
      ap (λ (b : Bool). cond b [] (map (mark_of w.depend) (filter graph.is_met w.groups))) (all_told ∙ is)
      ∙ sym (ap (λ (b : Bool). cond b [] (map (met_row d) (filter (is_met_now f d) (groups_of f d)))) is)
  marks_by false is =
      ap (λ (b : Bool). cond b [] (map (mark_of w.depend) (filter graph.is_met w.groups))) (all_told ∙ is)
      ∙ (marks_side (groups_of f d) w.groups (s.groups (or_parts d.met_all (list_all (is_met_now f d) (groups_of f d)) is).0)
      ∙ sym (ap (λ (b : Bool). cond b [] (map (met_row d) (filter (is_met_now f d) (groups_of f d)))) is))

  -- and its groups are marked so
  marks_told : marks_in w ≡ met_rows_of f d
  marks_told = marks_by (settled_row f d).met_all refl

rows_settled : (f : Farm) (ds : List DependRow) (ws : List Watch) → AllZip (Settles f) ds ws → rows_of ds ws ≡ map (settled_row f) ds
rows_settled f [] [] zip = refl
rows_settled f [] (w ∷ ws) zip = absurd zip
rows_settled f (d ∷ ds) [] zip = absurd zip
rows_settled f (d ∷ ds) (w ∷ ws) zip = λ i. record d { met_all = all_told f d w zip.0 i } ∷ rows_settled f ds ws zip.1 i

marks_settled : (f : Farm) (ds : List DependRow) (ws : List Watch) → AllZip (Settles f) ds ws → marks_of ws ≡ met_rows f ds
marks_settled f [] [] zip = refl
marks_settled f [] (w ∷ ws) zip = absurd zip
marks_settled f (d ∷ ds) [] zip = absurd zip
marks_settled f (d ∷ ds) (w ∷ ws) zip = λ i. marks_told f d w zip.0 i ++ marks_settled f ds ws zip.1 i

-- the farm with what such a graph says is the one in which each group is marked that is met now
pub settled_farm : (f : Farm) (ws : List Watch) → AllZip (Settles f) f.depends ws → record f { depends = rows_of f.depends ws; met = marks_of ws } ≡ with_met f
settled_farm f ws zip = λ i. record f { depends = rows_settled f f.depends ws zip i; met = marks_settled f f.depends ws zip i }

-- ---- where exactly what is met was marked

module _ (f : Farm) (b : DependLists) (book : IsBook b) (fits : Fits f b) (met : with_met (joined f b) ≡ joined f b) where
  row_stays : (i : ℕ) (d : DependRow) → slice_get b.rows i ≡ Some d → settled_row (joined f b) d ≡ d
  row_stays i d row =
      let there : slice_get (map (settled_row (joined f b)) b.rows) i ≡ Some (settled_row (joined f b) d) = slice_get-map (settled_row (joined f b)) b.rows i ∙ ap (option_map (settled_row (joined f b))) row in
      let stays : map (settled_row (joined f b)) b.rows ≡ b.rows = ap (λ (k : Farm). k.depends) met in
      same_Some (settled_row (joined f b) d) d (sym there ∙ (ap (λ (ds : List DependRow). slice_get ds i) stays ∙ row))

  -- a group of a depend that isn't satisfied is met now where the graph has it as met
  pub met_now_is : (i k : ℕ) (d : DependRow) (w : Watch) (x : Watched) → slice_get b.rows i ≡ Some d → slice_get b.graph.depends i ≡ Some w → slice_get w.groups k ≡ Some x → d.met_all ≡ false
      → is_met_now (joined f b) d x.group ≡ x.met
  met_now_is i k d w x row watch group unmet =
      let pair = zip_at (IsPair f) b.rows b.graph.depends (pairs f b book fits) i d w row watch in
      let there : slice_get (groups_of (joined f b) d) k ≡ Some x.group = ap (λ (gs : List Group). slice_get gs k) (groups_joined f b d) ∙ group_at f d w pair unmet k x group in
      let rise = positions_rise (joined f b) d in
      let marked = marked_rows (joined f b) 1 b.rows b.next i d rise.0 k x.group book.rise row rise.1 there in
      let unsettled : (settled_row (joined f b) d).met_all ≡ false = ap (λ (e : DependRow). e.met_all) (row_stays i d row) ∙ unmet in
      let stays : met_rows (joined f b) b.rows ≡ marks_of b.graph.depends = ap (λ (f : Farm). f.met) met in
      sym (ap (λ (c : Bool). not c && is_met_now (joined f b) d x.group) unsettled)
      ∙ (sym marked ∙ (ap (list_any (marks d x.group)) stays ∙ marked_is f b book fits i k d w x row watch group unmet))

  -- where its targets are done, it is met
  pub done_is_met : (i k : ℕ) (d : DependRow) (w : Watch) (x : Watched) → slice_get b.rows i ≡ Some d → slice_get b.graph.depends i ≡ Some w → slice_get w.groups k ≡ Some x → d.met_all ≡ false
      → are_done (is_done f.slots) x.group ≡ true → x.met ≡ true
  done_is_met i k d w x row watch group unmet done =
      sym (met_now_is i k d w x row watch group unmet) ∙ or_right (is_met (joined f b) d x.group) (are_done (is_done f.slots) x.group) done
