-- The finishes of finished jobs are those of all jobs that have one.
use Rattle.std.proofs.Common.{◌≡◌, ◌<◌, ℕ, Bool, true, false, cond, not, eqb, ltb, ◌&&◌, ◌||◌, List, [], ◌∷◌, map, refl, sym, ap, ◌∙◌, subst, arith}
use Rattle.std.specs.List.{filter, list_all, list_any}
use Rattle.std.proofs.lemmas.Bool.{eqb-true, ltb-true, ne_eqb}
use Rattle.farm_types.specs.Booking.{is_pending}
use Rattle.farm_types.specs.declared.rows.JobRow.{JobRow}
use Rattle.farm_types.specs.Finish.{is_finished}
use Rattle.farm_types.specs.Kept.{finish_of, has_its_finish}
use Rattle.farm_types.proofs.Lists.{and_both}

-- a finished job's finish is some
pub some_finish : (next : ℕ) (j : JobRow) → is_pending j.state ≡ false → has_its_finish next j ≡ true → 0 < j.finish
some_finish next j finished h =
    ltb-true 0 j.finish (and_both (ltb 0 j.finish) (ltb j.finish next) (subst (λ (b : Bool). cond b (eqb j.finish 0) (ltb 0 j.finish && ltb j.finish next) ≡ true) finished h)).0

module _ (next finish : ℕ) (some : 0 < finish) where
  any_step : (b : Bool) (j : JobRow) (kept : List JobRow) (rest : Bool) → cond b (eqb j.finish 0) (ltb 0 j.finish && ltb j.finish next) ≡ true → list_any (λ (n : ℕ). eqb n finish) (map finish_of kept) ≡ rest
      → list_any (λ (n : ℕ). eqb n finish) (map finish_of (cond (not b) (j ∷ kept) kept)) ≡ (eqb j.finish finish || rest)
  any_step true j kept rest h e = e ∙ sym (ap (λ (b : Bool). b || rest) (ne_eqb j.finish finish (λ same. absurd (omega (arith, eqb-true j.finish 0 h, same, some)))))
  any_step false j kept rest h e = ap (λ (b : Bool). eqb j.finish finish || b) e

  pub any_finish : (jobs : List JobRow) → list_all (has_its_finish next) jobs ≡ true → list_any (λ (n : ℕ). eqb n finish) (map finish_of (filter is_finished jobs)) ≡ list_any (λ (j : JobRow). eqb j.finish finish) jobs
  any_finish [] all = refl
  any_finish (j ∷ js) all =
      let both = and_both (has_its_finish next j) (list_all (has_its_finish next) js) all in
      any_step (is_pending j.state) j (filter is_finished js) (list_any (λ (k : JobRow). eqb k.finish finish) js) both.0 (any_finish js both.1)
