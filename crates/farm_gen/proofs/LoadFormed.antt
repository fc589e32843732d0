-- The job of a load has its form and keeps its limits.
use Rattle.std.proofs.Common.{◌≡◌, ℕ, ◌+◌, ◌%◌, ◌<◌, ◌≤◌, List, [], ◌∷◌, length, true, refl, sym, ◌∙◌, arith, subst}
use Rattle.std.specs.Prelude.{codes, decimal, nat_le, false}
use Rattle.std.specs.Cmp.Derive.{both_true}
use Rattle.std.specs.List.{IsDistinct, list_all}
use Rattle.std.specs.Ordering.{int_eq}
use Rattle.std.proofs.lemmas.Bool.{le-leb}
use Rattle.std.proofs.lemmas.Fmt.{decimal_by_steps, length-decimal-le}
use Rattle.std.proofs.lemmas.List.Elements.{All-nil, All-push}
use Rattle.std.proofs.lemmas.List.Folds.{list_all-append}
use Rattle.farm_types.specs.Formed.{IsFormedJob, IsFormedLayer, IsFormedOwn, IsFormedPlace}
use Rattle.farm_types.specs.Forms.{is_name_byte, is_name_text}
use Rattle.farm_types.specs.SpecLimits.{LayerKeepsLimits}
use Rattle.farm_types.specs.declared.limits.TheConstants.{MOST_NAME}
use Rattle.farm_types.proofs.Ranges.{range_distinct}
use Rattle.farm_types.proofs.Utf8.{ascii_utf8}
use Rattle.farm_gen.specs.Load.{IsLoad, layer_place, load_depend, load_layer, load_name, load_range, load_spec}
use Rattle.farm_gen.proofs.LoadRange.{numbers_long, range_says, range_text}

-- ---- the job's name

digit_named : (b : ℕ) → 48 ≤ b → b ≤ 57 → is_name_byte b ≡ true
digit_named b some most =
    let low : nat_le 48 b ≡ true = le-leb 48 b some in
    let high : nat_le b 57 ≡ true = le-leb b 57 most in
    rw (low, high) refl

one_named : (d : ℕ) → d < 10 → list_all is_name_byte ((48 + d) ∷ []) ≡ true
one_named d low = both_true (digit_named (48 + d) (omega arith) (omega arith)) refl

number_named : (n : ℕ) → n ≤ 5000 → list_all is_name_byte (decimal n) ≡ true
number_named n most =
    decimal_by_steps (λ m ds. list_all is_name_byte ds ≡ true) one_named
    (λ m ds high all. list_all-append is_name_byte ds ((48 + m % 10) ∷ []) ∙ both_true all (one_named (m % 10) (omega arith)))
    n (omega arith)

name_known : (text : List ℕ) → 1 ≤ length text → length text ≤ MOST_NAME → list_all is_name_byte text ≡ true → is_name_text text ≡ true
name_known text some short all = both_true (both_true (le-leb 1 (length text) some) (le-leb (length text) MOST_NAME short)) all

job_named : (n : ℕ) → IsLoad n → is_name_text (load_name n) ≡ true
job_named n load =
    let short : length (decimal n) ≤ 4 = length-decimal-le 4 n (omega arith) (omega (arith, load.within)) (omega (arith, load.within)) in
    name_known (load_name n) (omega arith) (omega (arith, short)) (list_all-append is_name_byte (codes "load-") (decimal n) ∙ number_named n load.within)

-- ---- its layers

layer_limits : (n : ℕ) (name : List ℕ) → IsLoad n → LayerKeepsLimits (load_layer n name)
layer_limits n name load =
    record {
      some = subst (λ (m : ℕ). 0 < m) (sym (numbers_long 1 n)) load.some;
      distinct = subst (IsDistinct int_eq) (range_says n load) (range_distinct (load_range n));
      command_within = (omega arith, omega arith);
      cores_within = (omega arith, omega arith);
      memory_within = (omega arith, omega arith);
      tags_within = (omega arith, omega arith);
    }

layer_formed : (n : ℕ) (name : List ℕ) → IsLoad n → is_name_text name ≡ true → IsFormedLayer (load_layer n name)
layer_formed n name load named =
    record {
      name = named;
      range = range_text n load;
      numbers_are = sym (range_says n load);
      command = both_true (ascii_utf8 (codes "true") refl) refl;
      tags = refl;
      limit = refl;
      limits = layer_limits n name load;
    }

-- ---- its depend

place_formed : (n : ℕ) (name : List ℕ) → IsLoad n → is_name_text name ≡ true → IsFormedPlace true false (layer_place n name)
place_formed n name load named = record { job = job_named n load; layer = refl; layer_name = named; frame = refl; frame_named = refl }

own_formed : (n : ℕ) → IsLoad n → IsFormedOwn (load_name n) (load_depend n)
own_formed n load =
    record { own = refl; depend = record { waiter = place_formed n (codes "b") load refl; target = place_formed n (codes "a") load refl } }

-- ---- the job

pub job_formed : (n : ℕ) → IsLoad n → IsFormedJob (load_spec n)
job_formed n load =
    record {
      name = job_named n load;
      show = refl;
      facility = refl;
      shot = refl;
      user = refl;
      limits =
          record {
            priority_within = (omega arith, omega arith);
            retries_within = omega arith;
            layers_within = (omega arith, omega arith);
            frames_within = (omega (arith, numbers_long 1 n, load.some), omega (arith, numbers_long 1 n, load.within));
            each_layer =
                All-push LayerKeepsLimits (load_layer n (codes "a") ∷ []) (load_layer n (codes "b"))
                (All-push LayerKeepsLimits [] (load_layer n (codes "a")) (All-nil LayerKeepsLimits) (layer_limits n (codes "a") load))
                (layer_limits n (codes "b") load);
          };
      each_layer =
          All-push IsFormedLayer (load_layer n (codes "a") ∷ []) (load_layer n (codes "b"))
          (All-push IsFormedLayer [] (load_layer n (codes "a")) (All-nil IsFormedLayer) (layer_formed n (codes "a") load refl))
          (layer_formed n (codes "b") load refl);
      each_depend = All-push (IsFormedOwn (load_name n)) [] (load_depend n) (All-nil (IsFormedOwn (load_name n))) (own_formed n load);
    }
