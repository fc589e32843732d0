-- A number without a minus sign.
use Rattle.std.proofs.Common.{◌≡◌, ◌≢◌, ◌==◌, ℕ, pos, List, [], ◌∷◌, option_map, refl, ap, sym}
use Rattle.std.proofs.lemmas.Bool.{cond-false, eqb-true, false_from_ne_true}
use Rattle.farm_lines.specs.Points.{number_of}
use Rattle.cue_words.specs.Parts.{negated, number_in}

-- with no minus sign before it
pub unsigned_is : (word : List ℕ) → ((rest : List ℕ) → word ≢ 45 ∷ rest) → option_map pos (number_of 10 word) ≡ number_in word
unsigned_is [] apart = refl
unsigned_is (b ∷ bs) apart =
    sym (cond-false (b == 45) (option_map negated (number_of 10 bs)) (option_map pos (number_of 10 (b ∷ bs))) (false_from_ne_true (b == 45) (λ e. apart bs (ap (λ (c : ℕ). c ∷ bs) (eqb-true b 45 e)))))
