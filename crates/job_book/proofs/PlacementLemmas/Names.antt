-- The names of layers that stood before, the last one first.
use Rattle.std.proofs.Common.{◌≡◌, ℕ, ◌+◌, ◌<◌, ◌||◌, Bool, true, false, cond, List, [], ◌∷◌, ◌++◌, length, take, drop, get_or, Option, Some, Err, option_map, refl, sym, ap, ◌∙◌}
use Rattle.std.specs.Prelude.{bytes_eq}
use Rattle.std.specs.List.{list_any}
use Rattle.std.proofs.lemmas.List.{take_more, drop_more}
use Rattle.farm_types.specs.declared.job.LayerSpec.{LayerSpec}
use Rattle.farm_types.specs.declared.refusal.Refusal.TheVariants.{Exists}
use Rattle.farm_types.specs.Faults.{IsRefusal, Refuses}
use Rattle.farm_types.specs.Jobs.{repeated_name}
use Rattle.farm_types.specs.declared.fault.FarmFault.{FarmFault}
use Rattle.farm_types.specs.declared.fault.FarmFault.TheVariants.{Refused, NoMemory}

abbrev pub names_onto : List LayerSpec → List (List ℕ) → List (List ℕ)
names_onto [] names = names
names_onto (l ∷ ls) names = names_onto ls (l.name ∷ names)

onto_push : (ls : List LayerSpec) (l : LayerSpec) (names : List (List ℕ)) → names_onto (ls ++ l ∷ []) names ≡ l.name ∷ names_onto ls names
onto_push [] l names = refl
onto_push (k ∷ ls) l names = onto_push ls l (k.name ∷ names)

or_swap : (a b c : Bool) → (a || (b || c)) ≡ (b || (a || c))
or_swap true true c = refl
or_swap true false c = refl
or_swap false b c = refl

or_nothing : (a : Bool) → (a || false) ≡ a
or_nothing true = refl
or_nothing false = refl

onto_any : (test : List ℕ → Bool) (ls : List LayerSpec) (names : List (List ℕ)) → list_any test (names_onto ls names) ≡ (list_any (λ (l : LayerSpec). test l.name) ls || list_any test names)
onto_any test [] names = refl
onto_any test (l ∷ ls) names = onto_any test ls (l.name ∷ names) ∙ or_step (list_any (λ (k : LayerSpec). test k.name) ls) (test l.name) (list_any test names)
  where
    or_step : (a b c : Bool) → (a || (b || c)) ≡ ((b || a) || c)
    or_step true true c = refl
    or_step true false c = refl
    or_step false true c = refl
    or_step false false c = refl

-- a name that stood before is among those
is_among : (test : List ℕ → Bool) (ls : List LayerSpec) → list_any test (names_onto ls []) ≡ list_any (λ (l : LayerSpec). test l.name) ls
is_among test ls = onto_any test ls [] ∙ or_nothing (list_any (λ (l : LayerSpec). test l.name) ls)

module _ (ls : List LayerSpec) (i : ℕ) (l : LayerSpec) (within : i < length ls) (is : l ≡ get_or ls i l) where
  repeated_at : repeated_name (names_onto (take i ls) []) (drop i ls) ≡ cond (list_any (λ (k : LayerSpec). bytes_eq l.name k.name) (take i ls)) (Some l.name) (repeated_name (names_onto (take (i + 1) ls) []) (drop (i + 1) ls))
  repeated_at =
      let rest : drop i ls ≡ l ∷ drop (i + 1) ls = drop_more ls i l within ∙ ap (λ k. k ∷ drop (i + 1) ls) (sym is) in
      let taken : take (i + 1) ls ≡ take i ls ++ l ∷ [] = take_more ls i l within ∙ ap (λ k. take i ls ++ k ∷ []) (sym is) in
      ap (repeated_name (names_onto (take i ls) [])) rest
      ∙ ap (λ b. cond b (Some l.name) (repeated_name (l.name ∷ names_onto (take i ls) []) (drop (i + 1) ls))) (is_among (λ name. bytes_eq l.name name) (take i ls))
      ∙ ap (λ names. cond (list_any (λ (k : LayerSpec). bytes_eq l.name k.name) (take i ls)) (Some l.name) (repeated_name names (drop (i + 1) ls))) (sym (onto_push (take i ls) l []) ∙ ap (λ ks. names_onto ks []) (sym taken))

  -- a layer whose name stood before
  pub repeated_here : repeated_name (names_onto (take i ls) []) (drop i ls) ≡ repeated_name [] ls → list_any (λ (k : LayerSpec). bytes_eq l.name k.name) (take i ls) ≡ true → repeated_name [] ls ≡ Some l.name
  repeated_here so_far has = sym so_far ∙ repeated_at ∙ ap (λ b. cond b (Some l.name) (repeated_name (names_onto (take (i + 1) ls) []) (drop (i + 1) ls))) has

  -- a layer whose name is new
  pub repeated_later : repeated_name (names_onto (take i ls) []) (drop i ls) ≡ repeated_name [] ls → list_any (λ (k : LayerSpec). bytes_eq l.name k.name) (take i ls) ≡ false → repeated_name (names_onto (take (i + 1) ls) []) (drop (i + 1) ls) ≡ repeated_name [] ls
  repeated_later so_far has = sym (ap (λ b. cond b (Some l.name) (repeated_name (names_onto (take (i + 1) ls) []) (drop (i + 1) ls))) has) ∙ sym repeated_at ∙ so_far

-- a fault that says that the name is there is the refusal by that name
pub existing_refuses : (X : Type 0) (o : Option (List ℕ)) (name : List ℕ) (fault : FarmFault) → o ≡ Some name → IsRefusal (Exists name) fault → Refuses {X = X} (option_map Exists o) (Err fault)
existing_refuses X o name (Refused why) is same = ap (option_map Exists) is ∙ ap Some (sym same)
existing_refuses X o name NoMemory is same = tt
