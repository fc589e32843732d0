-- Names and what has them.
use Rattle.std.proofs.Common.{◌≡◌, ℕ, Bool, ◌||◌, List, [], ◌∷◌, map, refl, ap}
use Rattle.std.specs.List.{list_any}
use Rattle.std.specs.Str.{bytes_eq}
use Rattle.std.specs.Cmp.Lexicographic.{nat_list_eq_equiv}

-- a key has the name exactly where one of the names is it
pub any_named : {K : Type 0} (text : K → List ℕ) (name : List ℕ) (keys : List K) → list_any (λ k. bytes_eq name (text k)) keys ≡ list_any (λ other. bytes_eq other name) (map text keys)
any_named text name [] = refl
any_named text name (k ∷ ks) =
    let first : bytes_eq name (text k) ≡ bytes_eq (text k) name = nat_list_eq_equiv.symm name (text k) in
    let rest = any_named text name ks in
    λ j. first j || rest j

-- a row has the name exactly where one of the rows' names is it
pub any_labelled : {X : Type 0} (label : X → List ℕ) (name : List ℕ) (xs : List X) → list_any (λ other. bytes_eq other name) (map label xs) ≡ list_any (λ x. bytes_eq (label x) name) xs
any_labelled label name [] = refl
any_labelled label name (x ∷ xs) = ap (λ (b : Bool). bytes_eq (label x) name || b) (any_labelled label name xs)
