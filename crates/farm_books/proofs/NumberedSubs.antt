-- A subscription that is found by its number has it, and none has a number past the greatest.
use Rattle.std.proofs.Common.{◌≡◌, ℕ, ◌<◌, ◌≤◌, Bool, true, false, eqb, ltb, List, [], ◌∷◌, Option, Some, None, refl, sym, arith}
use Rattle.std.specs.Prelude.{IfSome}
use Rattle.std.specs.List.{find, list_all}
use Rattle.std.proofs.lemmas.Bool.{eqb-true, ltb-true}
use Rattle.farm_types.specs.declared.limits.TheConstants.{SUB_NUMBERS}
use Rattle.farm_types.specs.declared.rows.SubRow.{SubRow}
use Rattle.farm_types.proofs.Lists.{and_both, found_is}

pub sub_numbered : (subs : List SubRow) (n : ℕ) (o : Option SubRow) → o ≡ find (λ (s : SubRow). eqb s.sub n) subs → IfSome o (λ s. s.sub ≡ n)
sub_numbered subs n None e = tt
sub_numbered subs n (Some s) e = eqb-true s.sub n (found_is (λ (x : SubRow). eqb x.sub n) subs s (sym e))

abbrev is_below : SubRow → Bool
is_below s = ltb s.sub SUB_NUMBERS

past_step : (n : ℕ) (b : Bool) (s : SubRow) (ss : List SubRow) → SUB_NUMBERS ≤ n → s.sub < SUB_NUMBERS → eqb s.sub n ≡ b → find (λ (x : SubRow). eqb x.sub n) ss ≡ None → find (λ (x : SubRow). eqb x.sub n) (s ∷ ss) ≡ None
past_step n true s ss past below same rest = absurd (omega (arith, eqb-true s.sub n same))
past_step n false s ss past below same rest = rw same rest

pub none_past : (subs : List SubRow) (n : ℕ) → list_all is_below subs ≡ true → SUB_NUMBERS ≤ n → find (λ (x : SubRow). eqb x.sub n) subs ≡ None
none_past [] n all past = refl
none_past (s ∷ ss) n all past =
    let both = and_both (is_below s) (list_all is_below ss) all in
    past_step n (eqb s.sub n) s ss past (ltb-true s.sub SUB_NUMBERS both.0) refl (none_past ss n both.1 past)
