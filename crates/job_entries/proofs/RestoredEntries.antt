-- Places of jobs that are made one after another, each with its own layers.
use Rattle.std.proofs.Common.{◌≡◌, ℕ, ◌+◌, ◌<◌, ◌≤◌, true, eqb, List, [], ◌∷◌, ◌++◌, length, map, take, drop, get_or, Some, refl, sym, ap, subst, ◌∙◌, append_assoc, append-nil, length-drop, arith}
use Rattle.std.specs.List.{flat_map, list_all}
use Rattle.std.proofs.lemmas.Bool.{eq-eqb, and_from}
use Rattle.std.proofs.lemmas.List.{length-take-le, map_push, take-append-drop, take_all, take_more}
use Rattle.std.proofs.lemmas.List.Concat.{flat_map-append}
use Rattle.std.proofs.lemmas.List.Folds.{list_all-append}
use Rattle.std.proofs.lemmas.List.Sums.{prefix_len-le-length}
use Rattle.farm_types.specs.declared.rows.JobRow.{JobRow}
use Rattle.farm_types.specs.declared.rows.LayerRow.{LayerRow}
use Rattle.farm_types.specs.Rising.{IsRising, job_key}
use Rattle.farm_law.proofs.KeptJobsLists.{rising-append}
use Rattle.job_entries.specs.declared.counts.Counts.{Counts}
use Rattle.job_entries.specs.declared.entries.Place.{Place}
use Rattle.job_entries.specs.declared.entries.TheConstants.{MOST_PLACES}
use Rattle.job_entries.specs.Entries.{KeepsEntries, all_of, counts_held, held, index_held, is_held_at, is_whole, layers_held, place_key, row_of}
use Rattle.job_index.specs.Places.{LayerPlaces}
use Rattle.job_entries.specs.OneJob.{AllJobs, OneJob}
use Rattle.job_entries.specs.Restored.{AreOwned, own_count, place_with}
use Rattle.job_entries.proofs.Held.{held_more}
use Rattle.job_entries.proofs.HeldKept.{same_lists}

pub record IsPart (all : AllJobs) (places : List Place) (at : ℕ) (rows : List JobRow) (layers : List LayerRow) (index : List LayerPlaces) : Type 0 where
  pub rows_are : map row_of (held places) ++ rows ≡ all.rows
  pub counts_are : map counts_held (held places) ≡ take at all.counts
  pub layers_are : flat_map layers_held (held places) ++ layers ≡ all.layers
  pub index_are : flat_map index_held (held places) ++ index ≡ all.index
  pub numbers_are : map place_key places ++ map job_key rows ≡ all.numbers
  pub owned : AreOwned rows layers
  pub as_many : length index ≡ length layers
  pub low : ℕ
  pub rise_done : IsRising place_key 0 places low
  pub rise_left : IsRising job_key low rows all.next
  pub each : list_all is_held_at places ≡ true
  pub count : at + length rows ≡ length all.counts

pub no_part : (all : AllJobs) → IsRising job_key 0 all.rows all.next → AreOwned all.rows all.layers → length all.counts ≡ length all.rows → length all.index ≡ length all.layers → map job_key all.rows ≡ all.numbers
    → IsPart all [] 0 all.rows all.layers all.index
no_part all rise own counts index numbers =
    record {
      rows_are = refl;
      counts_are = refl;
      layers_are = refl;
      index_are = refl;
      numbers_are = numbers;
      owned = own;
      as_many = index;
      low = 0;
      rise_done = omega arith;
      rise_left = rise;
      each = refl;
      count = omega (arith, counts);
    }

module _ (all : AllJobs) (places : List Place) (at : ℕ) (j : JobRow) (js : List JobRow) (layers : List LayerRow) (index : List LayerPlaces) (part : IsPart all places at (j ∷ js) layers index) where
  pub within_counts : at < length all.counts
  within_counts = omega (arith, part.count)

  pub within_index : own_count j.job layers ≤ length index
  within_index = omega (arith, part.as_many, prefix_len-le-length (λ (l : LayerRow). eqb l.job j.job) layers)

  pub next_part : (c : Counts) → c ≡ get_or all.counts at c → (new : List Place) → new ≡ places ++ place_with j c (take (own_count j.job layers) layers) (take (own_count j.job layers) index) ∷ []
      → IsPart all new (at + 1) js (drop (own_count j.job layers) layers) (drop (own_count j.job layers) index)
  next_part c here new is =
      let count : ℕ = own_count j.job layers in
      let e : OneJob = record { row = j; counts = c; layers = take count layers; index = take count index } in
      let p : Place = record { job = j.job; held = Some e } in
      let more : held new ≡ held places ++ e ∷ [] = ap held is ∙ held_more places (p ∷ []) in
      let own = prefix_len-le-length (λ (l : LayerRow). eqb l.job j.job) layers in
      let long : length (take count layers) ≡ count = length-take-le count layers own in
      let long_index : length (take count index) ≡ count = length-take-le count index within_index in
      record {
        rows_are = ap (λ (es : List OneJob). map row_of es ++ js) more ∙ ap (λ (rs : List JobRow). rs ++ js) (map_push row_of (held places) e) ∙ append_assoc (map row_of (held places)) (j ∷ []) js ∙ part.rows_are;
        counts_are = ap (map counts_held) more ∙ map_push counts_held (held places) e ∙ ap (λ (cs : List Counts). cs ++ c ∷ []) part.counts_are
            ∙ ap (λ (k : Counts). take at all.counts ++ k ∷ []) here ∙ sym (take_more all.counts at c within_counts);
        layers_are = ap (λ (es : List OneJob). flat_map layers_held es ++ drop count layers) more
            ∙ ap (λ (ls : List LayerRow). ls ++ drop count layers) (flat_map-append layers_held (held places) (e ∷ []) ∙ ap (λ (ls : List LayerRow). flat_map layers_held (held places) ++ ls) (append-nil (take count layers)))
            ∙ append_assoc (flat_map layers_held (held places)) (take count layers) (drop count layers)
            ∙ ap (λ (ls : List LayerRow). flat_map layers_held (held places) ++ ls) (take-append-drop count layers)
            ∙ part.layers_are;
        index_are = ap (λ (es : List OneJob). flat_map index_held es ++ drop count index) more
            ∙ ap (λ (xs : List LayerPlaces). xs ++ drop count index) (flat_map-append index_held (held places) (e ∷ []) ∙ ap (λ (xs : List LayerPlaces). flat_map index_held (held places) ++ xs) (append-nil (take count index)))
            ∙ append_assoc (flat_map index_held (held places)) (take count index) (drop count index)
            ∙ ap (λ (xs : List LayerPlaces). flat_map index_held (held places) ++ xs) (take-append-drop count index)
            ∙ part.index_are;
        numbers_are = ap (λ (ps : List Place). map place_key ps ++ map job_key js) is ∙ ap (λ (ns : List ℕ). ns ++ map job_key js) (map_push place_key places p)
            ∙ append_assoc (map place_key places) (j.job ∷ []) (map job_key js) ∙ part.numbers_are;
        owned = part.owned.1;
        as_many = omega (arith, length-drop count index, length-drop count layers, part.as_many);
        low = j.job + 1;
        rise_done = subst (λ (ps : List Place). IsRising place_key 0 ps (j.job + 1)) (sym is) (rising-append place_key 0 part.low (j.job + 1) places (p ∷ []) part.rise_done (part.rise_left.0, omega arith));
        rise_left = part.rise_left.1;
        each = ap (list_all is_held_at) is ∙ list_all-append is_held_at places (p ∷ [])
            ∙ and_from _ _ part.each (and_from _ _ (and_from (eqb j.job j.job) (is_whole e) (eq-eqb j.job j.job refl) (and_from _ _ part.owned.0 (eq-eqb (length (take count index)) (length (take count layers)) (long_index ∙ sym long)))) refl);
        count = omega (arith, part.count);
      }

pub none_left : {X : Type 0} (xs : List X) → length xs ≡ 0 → xs ≡ []
none_left [] none = refl
none_left (x ∷ xs) none = absurd (omega (arith, none))

module _ (all : AllJobs) (places : List Place) (at : ℕ) (rows : List JobRow) (layers : List LayerRow) (index : List LayerPlaces) (part : IsPart all places at rows layers index) (done : rows ≡ []) where
  last_part : IsPart all places at [] layers index
  last_part = subst (λ (rs : List JobRow). IsPart all places at rs layers index) done part

  pub all_parts : all_of (map place_key places) (held places) all.next ≡ all
  all_parts =
      let last = last_part in
      let none : layers ≡ [] = last.owned in
      let nothing : index ≡ [] = none_left index (last.as_many ∙ ap (λ (ls : List LayerRow). length ls) none) in
      same_lists (all_of (map place_key places) (held places) all.next) all
      (sym (append-nil (map row_of (held places))) ∙ last.rows_are)
      (last.counts_are ∙ take_all at all.counts (omega (arith, last.count)))
      (sym (append-nil (flat_map layers_held (held places))) ∙ sym (ap (λ (ls : List LayerRow). flat_map layers_held (held places) ++ ls) none) ∙ last.layers_are)
      (sym (append-nil (flat_map index_held (held places))) ∙ sym (ap (λ (xs : List LayerPlaces). flat_map index_held (held places) ++ xs) nothing) ∙ last.index_are)
      refl
      (sym (append-nil (map place_key places)) ∙ last.numbers_are)

  pub keeps_all : (fit : ℕ) → MOST_PLACES ≤ fit → KeepsEntries places all.next fit
  keeps_all fit room = record {
    rise = subst (λ (ps : List Place). IsRising place_key 0 ps all.next) (append-nil places) (rising-append place_key 0 last_part.low all.next places [] last_part.rise_done last_part.rise_left);
    each = last_part.each;
    room = room;
  }
