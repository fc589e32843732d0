-- In a new keeper in memory a farm may be opened, and that of a script in each keeper of which no commit was refused.
use Rattle.std.proofs.Common.{◌≡◌, ℕ, List, [], inl, refl, sym, subst}
use Rattle.std.specs.FinMap.{empty}
use Rattle.farm_keeper.specs.Keeping.{HasKept, MayRemain}
use Rattle.farm_keeper.specs.Rows.{Rows}
use Rattle.farm_keeper.specs.Memory.{Kept, new_keeper}
use Rattle.session.specs.Opening.{MayOpen}
use Rattle.session.specs.Words.{WordForm, Demo, IsScript, Script, Load, file_of}
use Rattle.std.specs.Prelude.{Some}

-- what is open to a keeper
abbrev MayOpenIn : WordForm → Kept → Type 0
MayOpenIn form k = MayOpen form (λ rows. rows ≡ k.rows) (MayRemain k.rows k.refused)

in_new : (form : WordForm) (fails : List ℕ) → MayOpenIn form (new_keeper fails)
in_new Demo fails = (record { held = refl; remains = λ rows left. left; some = ∣ (empty, inl refl) ∣₁ }, λ rows held. held)
in_new (Script store) fails = (empty, record { held = refl; remains = λ rows left. left; some = ∣ (empty, inl refl) ∣₁ })
in_new (Load n) fails = (record { held = refl; remains = λ rows left. left; some = ∣ (empty, inl refl) ∣₁ }, λ rows held. held)

pub may_open : (k : Kept) (fails : List ℕ) → k ≡ new_keeper fails → (form : WordForm) → MayOpen form (λ rows. rows ≡ k.rows) (MayRemain k.rows k.refused)
may_open k fails is form = subst (MayOpenIn form) (sym is) (in_new form fails)

pub may_open_kept : (form : WordForm) → IsScript form → (held left : Rows → Type 0) → (rows : Rows) × HasKept held left rows [] → MayOpen form held left
may_open_kept Demo script held left kept = absurd script
may_open_kept (Script store) script held left kept = kept
may_open_kept (Load n) script held left kept = absurd script

-- words that name a file are those of a script
pub files_are_scripts : (form : WordForm) (path : List ℕ) → file_of form ≡ Some path → IsScript form
files_are_scripts Demo path is = absurd (let e = is in cc)
files_are_scripts (Script store) path is = tt
files_are_scripts (Load n) path is = absurd (let e = is in cc)
