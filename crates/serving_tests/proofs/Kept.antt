-- A farm may be opened over a keeper in memory that refused nothing.
use Rattle.std.proofs.Common.{inl, sym, subst}
use Rattle.std.specs.Prelude.{ℕ, ◌≡◌, [], List, refl}
use Rattle.farm_keeper.specs.declared.row.Batch.{Batch}
use Rattle.farm_keeper.specs.Keeping.{HasKept, MayRemain}
use Rattle.farm_keeper.specs.Rows.{Rows}
use Rattle.serving.specs.session.specs.Opening.{MayOpen}
use Rattle.serving.specs.session.specs.Words.{Script}

kept_all : (rows : Rows) → HasKept (λ held. held ≡ rows) (MayRemain rows []) rows []
kept_all rows = record { held = refl; remains = λ other now. now; some = ∣ (rows, inl refl) ∣₁ }

pub may_open : (store : List ℕ) (rows : Rows) (refused : List Batch) → refused ≡ [] → MayOpen (Script store) (λ held. held ≡ rows) (MayRemain rows refused)
may_open store rows refused none =
    subst (λ (bs : List Batch). MayOpen (Script store) (λ held. held ≡ rows) (MayRemain rows bs)) (sym none) (rows, kept_all rows)
