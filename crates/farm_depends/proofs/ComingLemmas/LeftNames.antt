-- Jobs by their names, where a finished job of a name goes.
use Rattle.std.proofs.Common.{◌≡◌, ℕ, ◌&&◌, ◌||◌, not, Bool, true, false, cond, List, [], ◌∷◌, Some, refl, sym, ap, ◌∙◌}
use Rattle.std.specs.List.{find, list_any}
use Rattle.std.specs.Str.{bytes_eq}
use Rattle.std.proofs.lemmas.Bool.{false≢true}
use Rattle.std.proofs.lemmas.Slice.Eq.{bytes_eq-Decides}
use Rattle.farm_types.specs.declared.rows.JobRow.{JobRow}
use Rattle.farm_types.specs.Booking.{is_pending}
use Rattle.farm_types.specs.Jobs.{is_finished_named, is_pending_named, without_finished}
use Rattle.farm_types.proofs.Lists.{and_both}

-- ---- the pending ones stay

module _ (name gone : List ℕ) where
  abbrev pends : JobRow → Bool
  pends = is_pending_named name

  pending_idle : (j : JobRow) (js : List JobRow) (b : Bool) → is_pending j.state ≡ false → find pends (without_finished gone js) ≡ find pends js
      → find pends (cond (not (not false && b)) (j ∷ without_finished gone js) (without_finished gone js)) ≡ cond (pends j) (Some j) (find pends js)
  pending_idle j js true idle later = later ∙ ap (λ (p : Bool). cond (p && bytes_eq j.name name) (Some j) (find pends js)) (sym idle)
  pending_idle j js false idle later = ap (cond (pends j) (Some j)) later

  pending_step : (j : JobRow) (js : List JobRow) (p : Bool) → is_pending j.state ≡ p → find pends (without_finished gone js) ≡ find pends js → find pends (without_finished gone (j ∷ js)) ≡ find pends (j ∷ js)
  pending_step j js true is later =
      ap (λ (b : Bool). find pends (cond (not (not b && bytes_eq j.name gone)) (j ∷ without_finished gone js) (without_finished gone js))) is ∙ ap (cond (pends j) (Some j)) later
  pending_step j js false is later =
      ap (λ (b : Bool). find pends (cond (not (not b && bytes_eq j.name gone)) (j ∷ without_finished gone js) (without_finished gone js))) is
      ∙ pending_idle j js (bytes_eq j.name gone) is later

  pub pending_left : (jobs : List JobRow) → find pends (without_finished gone jobs) ≡ find pends jobs
  pending_left [] = refl
  pending_left (j ∷ js) = pending_step j js (is_pending j.state) refl (pending_left js)

-- ---- a finished one of another name stays

and_false : (b : Bool) → (b && false) ≡ false
and_false true = refl
and_false false = refl

module _ (name gone : List ℕ) (apart : bytes_eq name gone ≡ false) where
  abbrev ended : JobRow → Bool
  ended = is_finished_named name

  named_other : (j : JobRow) (b : Bool) → bytes_eq j.name name ≡ b → is_finished_named gone j ≡ true → (not (is_pending j.state) && b) ≡ false
  named_other j true same goes =
      let has : bytes_eq j.name gone ≡ true = (and_both (not (is_pending j.state)) (bytes_eq j.name gone) goes).1 in
      absurd (false≢true (sym apart ∙ (ap (λ (n : List ℕ). bytes_eq n gone) (sym ((bytes_eq-Decides j.name name).0 same)) ∙ has)))
  named_other j false other goes = and_false (not (is_pending j.state))

  finished_other : (j : JobRow) → is_finished_named gone j ≡ true → ended j ≡ false
  finished_other j goes = named_other j (bytes_eq j.name name) refl goes

  finished_step : (j : JobRow) (js : List JobRow) (g : Bool) → is_finished_named gone j ≡ g → list_any ended (without_finished gone js) ≡ list_any ended js
      → list_any ended (cond (not g) (j ∷ without_finished gone js) (without_finished gone js)) ≡ list_any ended (j ∷ js)
  finished_step j js true goes later = later ∙ ap (λ (b : Bool). b || list_any ended js) (sym (finished_other j goes))
  finished_step j js false goes later = ap (λ (b : Bool). ended j || b) later

  pub finished_left : (jobs : List JobRow) → list_any ended (without_finished gone jobs) ≡ list_any ended jobs
  finished_left [] = refl
  finished_left (j ∷ js) = finished_step j js (is_finished_named gone j) refl (finished_left js)
