-- What a stop leaves of a keeper in memory.
use Rattle.std.specs.Prelude.{◌≡◌, refl}
use Rattle.std.proofs.Common.{inl}
use Rattle.farm_keeper.specs.Keeping.{HoldsOnly, LeavesSome, MayRemain}
use Rattle.farm_keeper.specs.Memory.{Kept}
use Rattle.farm_keeper.specs.Rows.{Rows}

-- its rows may be left
pub leaves : (k : Kept) → LeavesSome (MayRemain k.rows k.refused)
leaves k = ∣ (k.rows, inl refl) ∣₁

pub leaves_held : (k : Kept) (rows : Rows) → HoldsOnly (λ held. held ≡ k.rows) rows → MayRemain k.rows k.refused rows
leaves_held k rows only = inl only.held
