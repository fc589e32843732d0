-- The ranks of a job: those of its layers, in the order of their places.
use Rattle.std.proofs.Common.{◌≡◌, ℕ, ◌+◌, ◌<◌, ◌≤◌, List, [], ◌∷◌, sym, ap, ◌∙◌, arith, eqb, length}
use Rattle.std.specs.declared.cmp.Ordering.{Ordering}
use Rattle.std.specs.declared.cmp.Ordering.TheVariants.{Less}
use Rattle.std.specs.Ordering.{nat_cmp}
use Rattle.std.proofs.lemmas.Bool.{eqb-true}
use Rattle.std.proofs.lemmas.Cmp.{ranked}
use Rattle.farm_types.specs.declared.dispatch.Rank.{Rank}
use Rattle.farm_types.specs.declared.rows.LayerRow.{LayerRow}
use Rattle.farm_types.specs.Dispatch.{rank_cmp}
use Rattle.farm_types.specs.Farm.{Farm, layers_of}
use Rattle.farm_types.specs.Kept.{AreAtPlaces}
use Rattle.farm_types.specs.Ranges.{range_numbers}
use Rattle.dispatch_law.specs.ByIndex.{ranks_in_layer, ranks_in_job}
use Rattle.dispatch_law.proofs.Found.{has_filter}
use Rattle.dispatch_law.proofs.InLayer.{IsOfPlace, IsRankAt, of_place, ranks_at_have, ranks_at_strict}
use Rattle.dispatch_law.proofs.Keys.{one_job, layers_less, less_is}
use Rattle.dispatch_law.proofs.Strict.{Has, has_none, has_split, IsStrict, flat_strict, flat_from}
use Rattle.std.proofs.Common.{inl, inr}

abbrev pub place_cmp : LayerRow → LayerRow → Ordering
place_cmp l m = nat_cmp l.place m.place

-- a layer of the list stands at the place or after it
places_from : (place : ℕ) (ls : List LayerRow) (l : LayerRow) → AreAtPlaces place ls → Has ls l → place ≤ l.place
places_from place [] l at h = absurd (has_none l h)
places_from place (m ∷ ls) l at h =
    elim (has_split m l ls h) [
      | inl e ↦ (let here : m.place ≡ l.place = ap (λ (x : LayerRow). x.place) e in let first = at.0 in omega arith)
      | inr k ↦ (let later = places_from (place + 1) ls l at.1 k in omega arith)
    ]

pub places_strict : (place : ℕ) (ls : List LayerRow) → AreAtPlaces place ls → IsStrict place_cmp ls
places_strict place [] at = tt
places_strict place (m ∷ ls) at =
    (λ l h. let later = places_from (place + 1) ls l at.1 h in let first = at.0 in less_is m.place l.place (omega arith), places_strict (place + 1) ls at.1)

-- a rank of a layer, and where its frame stands
pub record IsInLayer (f : Farm) (host : ℕ) (l : LayerRow) (r : Rank) : Type 0 where
  pub position : ℕ
  pub found : IsRankAt f host l.job l.place position r
  pub it : IsOfPlace f host l.job l.place position r

pub in_layer : (f : Farm) (host : ℕ) (l : LayerRow) (r : Rank) → Has (ranks_in_layer f host l) r → IsInLayer f host l r
in_layer f host l r h =
    let got = ranks_at_have f host l.job l.place 0 (length (range_numbers l.range)) r h in
    record { position = got.k; found = got.it; it = of_place f host l.job l.place got.k r got.it }

-- the job's layer
layer_of : (layers : List LayerRow) (job : ℕ) (l : LayerRow) → Has (layers_of layers job) l → l.job ≡ job
layer_of layers job l h = eqb-true l.job job (has_filter (λ (m : LayerRow). eqb m.job job) layers l h).passes

-- a rank of a job
pub record IsInJob (f : Farm) (host job : ℕ) (r : Rank) : Type 0 where
  pub layer : LayerRow
  pub layered : Has (layers_of f.layers job) layer
  pub job_is : layer.job ≡ job
  pub within : IsInLayer f host layer r

pub in_job : (f : Farm) (host job : ℕ) (r : Rank) → Has (ranks_in_job f host job) r → IsInJob f host job r
in_job f host job r h =
    let from = flat_from (ranks_in_layer f host) (layers_of f.layers job) r h in
    record { layer = from.from; layered = from.there; job_is = layer_of f.layers job from.from from.there; within = in_layer f host from.from r from.within }

place_less : (x y : ℕ) → nat_cmp x y ≡ Less → x < y
place_less x y e = ranked x y Less (sym e)

-- the ranks of a job rise, where its layers stand at their places
pub job_strict : (f : Farm) (host job : ℕ) → AreAtPlaces 0 (layers_of f.layers job) → IsStrict (rank_cmp f) (ranks_in_job f host job)
job_strict f host job at =
    flat_strict (rank_cmp f) place_cmp (ranks_in_layer f host) (layers_of f.layers job) (places_strict 0 (layers_of f.layers job) at)
    (λ l h. ranks_at_strict f host l.job l.place 0 (length (range_numbers l.range)))
    (λ l m lh mh less a b ah bh.
    let x = in_layer f host l a ah in
    let y = in_layer f host m b bh in
    let jobs : a.job ≡ b.job = x.it.job_is ∙ (layer_of f.layers job l lh ∙ (sym (layer_of f.layers job m mh) ∙ sym y.it.job_is)) in
    let places = place_less l.place m.place less in
    let below : a.layer < b.layer = omega (arith, x.it.layer_is, y.it.layer_is, places) in
    layers_less f a b (one_job f host a b x.it.keys y.it.keys jobs) below)
