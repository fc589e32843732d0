-- Walks along groups and flags.
use Rattle.std.proofs.Common.{◌≡◌, ◌∙◌, ◌<◌, ◌≤◌, ℕ, suc, zero, ◌+◌, Bool, true, false, ◌||◌, leb, List, [], ◌∷◌, length, get_or, drop, replicate, Option, Some, None, refl, sym, ap, arith, ◌⊎◌, inl, inr}
use Rattle.std.specs.Prelude.{is_some}
use Rattle.std.specs.List.{find, list_any}
use Rattle.std.proofs.lemmas.Bool.Decides.{leb_tells}
use Rattle.std.proofs.lemmas.List.{drop_more, length-replicate}
use Rattle.farm_types.specs.declared.depend.Group.{Group}
use Rattle.farm_types.specs.DependActs.{or_else, waits_for_itself}
use Rattle.stored_farm.specs.Ends.{is_set}
use Rattle.stored_farm.specs.SelfWaits.{is_among}
use Rattle.stored_rows.proofs.Frames.{some_found}

either_some : {X : Type 0} (first second : Option X) → is_some (or_else first second) ≡ (is_some first || is_some second)
either_some None second = refl
either_some (Some x) second = refl

module _ (groups : List Group) (i : ℕ) (g : Group) (within : i < length groups) (is : g ≡ get_or groups i g) (so_far : is_some (waits_for_itself (drop i groups)) ≡ is_some (waits_for_itself groups)) where
  rest : Bool
  rest = is_some (waits_for_itself (drop (i + 1) groups))

  here : is_some (waits_for_itself (drop i groups)) ≡ (list_any (is_among g.targets) g.waiters || rest)
  unfolding rest
  here =
      ap (λ (gs : List Group). is_some (waits_for_itself gs)) (drop_more groups i g within ∙ ap (λ (h : Group). h ∷ drop (i + 1) groups) (sym is))
      ∙ (either_some (find (is_among g.targets) g.waiters) (waits_for_itself (drop (i + 1) groups))
      ∙ ap (λ (b : Bool). b || is_some (waits_for_itself (drop (i + 1) groups))) (some_found (is_among g.targets) g.waiters))

  pub waits_here : list_any (is_among g.targets) g.waiters ≡ true → true ≡ is_some (waits_for_itself groups)
  waits_here h = sym (ap (λ (b : Bool). b || rest) h) ∙ (sym here ∙ so_far)

  pub waits_later : list_any (is_among g.targets) g.waiters ≡ false → is_some (waits_for_itself (drop (i + 1) groups)) ≡ is_some (waits_for_itself groups)
  unfolding rest
  waits_later h = sym (ap (λ (b : Bool). b || rest) h) ∙ (sym here ∙ so_far)

-- ---- flags

pub none_set : (n w : ℕ) → is_set (replicate n false) w ≡ false
none_set zero w = refl
none_set (suc n) zero = refl
none_set (suc n) (suc w) = none_set n w

set_past : (flags : List Bool) (w : ℕ) → length flags ≤ w → is_set flags w ≡ false
set_past [] w past = refl
set_past (b ∷ bs) zero past = absurd (omega (arith, past))
set_past (b ∷ bs) (suc w) past = set_past bs w (omega (arith, past))

split : (w n : ℕ) → (w < n) ⊎ (n ≤ w)
split w n = side (leb_tells n w)
  where
    side : ((leb n w ≡ true) × (n ≤ w)) ⊎ ((leb n w ≡ false) × (w < n)) → (w < n) ⊎ (n ≤ w)
    side (inl h) = inr h.1
    side (inr h) = inl h.1

module _ (olds news : List Bool) (targets : List ℕ) (limit : ℕ) (none : olds ≡ replicate limit false) (long : length news ≡ length olds)
    (set : (slot : ℕ) → slot < length olds → is_set news slot ≡ (is_set olds slot || is_among targets slot)) (past : (slot : ℕ) → limit ≤ slot → is_among targets slot ≡ false) where
  count : length olds ≡ limit
  count = ap length none ∙ length-replicate {A = Bool} limit false

  same_at : (w : ℕ) → (w < limit) ⊎ (limit ≤ w) → is_set news w ≡ is_among targets w
  same_at w (inl below) = set w (omega (arith, below, count)) ∙ ap (λ (b : Bool). b || is_among targets w) (ap (λ (flags : List Bool). is_set flags w) none ∙ none_set limit w)
  same_at w (inr above) = set_past news w (omega (arith, above, long, count)) ∙ sym (past w above)

  pub flagged_same : (w : ℕ) → is_set news w ≡ is_among targets w
  flagged_same w = same_at w (split w limit)
