-- The counts of the blocks.
use Rattle.std.proofs.Common.{◌≡◌, ℕ, ◌+◌, ◌-◌, ◌*◌, ◌/◌, ◌%◌, ◌<◌, ◌≤◌, ⊎_elim, Bool, true, false, not, List, length, take, drop, get_or, set, replicate, refl, sym, ap, subst, ◌∙◌, arith}
use Rattle.std.proofs.Math.Bool.{beq}
use Rattle.std.proofs.lemmas.Bool.{cases_eq, cases_lt}
use Rattle.std.proofs.lemmas.List.{length-set, length-replicate, get_or-set_same, get_or-set_other, get_or-replicate, get_or_past, get_or_read, drop-drop}
use Rattle.place_set.specs.declared.blocks.TheConstants.{BLOCK}
use Rattle.place_set.specs.Places.{first_in, first_from}
use Rattle.place_set.specs.Inside.{marked, count_of, Counted, count_with, CountChanges}
use Rattle.place_set.proofs.Marks.{one, first_in_after, marked_within, same_before, same_after, marked-le, marked_full, marked_rest}

-- ---- the walk

-- over a block without marks
pub first_from_leap : (marks : List Bool) (counts : List ℕ) (place : ℕ) → Counted marks counts → place % BLOCK ≡ 0 → get_or counts (place / BLOCK) 0 ≡ 0
    → first_from marks place ≡ first_from marks (place + BLOCK)
unfolding count_of
first_from_leap marks counts place c start none =
    let at : BLOCK * (place / BLOCK) ≡ place = omega arith in
    let empty : marked (take BLOCK (drop (BLOCK * (place / BLOCK)) marks)) ≡ 0 = sym (c.counted (place / BLOCK)) ∙ none in
    let here : marked (take BLOCK (drop place marks)) ≡ 0 = subst (λ (k : ℕ). marked (take BLOCK (drop k marks)) ≡ 0) at empty in
    first_in_after BLOCK place (drop place marks) here ∙ ap (first_in (place + BLOCK)) (drop-drop BLOCK place marks)

-- ---- a mark that changes

-- what isn't a mark is the other one
differs : (was there : Bool) → not (beq was there) ≡ true → was ≡ not there
differs true true other = cc
differs true false other = refl
differs false true other = refl
differs false false other = cc

-- a mark that was read, and isn't the new one
pub was_other : (marks : List Bool) (place : ℕ) (read there : Bool) → place < length marks → read ≡ get_or marks place read → not (beq read there) ≡ true
    → get_or marks place false ≡ not there
was_other marks place read there within is other = sym (get_or_read marks place read within is false) ∙ differs read there other

-- a block's count can take a mark that comes, and one that goes where one is there
changes : (there : Bool) (count : ℕ) → count ≤ BLOCK → one (not there) ≤ count → CountChanges there count
changes true count few some = omega arith
changes false count few some = omega arith

count-le : (marks : List Bool) (block : ℕ) → count_of marks block ≤ BLOCK
unfolding count_of
count-le marks block = marked-le BLOCK (drop (BLOCK * block) marks)

module _ (marks : List Bool) (counts : List ℕ) (place : ℕ) (there : Bool) (c : Counted marks counts) (within : place < length marks) (was : get_or marks place false ≡ not there) where
  abbrev block : ℕ
  block = place / BLOCK

  at : BLOCK * block + place % BLOCK ≡ place
  at = omega arith

  here : (count_of (set marks place there) block ≡ count_with there (count_of marks block)) × (one (not there) ≤ count_of marks block)
  unfolding count_of
  here = subst
      (λ (p : ℕ). (marked (take BLOCK (drop (BLOCK * block) (set marks p there))) ≡ count_with there (marked (take BLOCK (drop (BLOCK * block) marks)))) × (one (not there) ≤ marked (take BLOCK (drop (BLOCK * block) marks))))
      at
      (marked_within BLOCK (BLOCK * block) (place % BLOCK) marks there (omega arith) (omega arith) (ap (λ (p : ℕ). get_or marks p false) at ∙ was))

  elsewhere : (other : ℕ) → (other ≡ block → ⊥) → count_of (set marks place there) other ≡ count_of marks other
  unfolding count_of
  elsewhere other apart = ⊎_elim
      (λ (before : place < BLOCK * other). ap marked (same_before BLOCK (BLOCK * other) place marks there before))
      (λ (after : BLOCK * other ≤ place).
      let e : BLOCK * other + (place - BLOCK * other) ≡ place = omega arith in
      ap marked (subst (λ (p : ℕ). take BLOCK (drop (BLOCK * other) (set marks p there)) ≡ take BLOCK (drop (BLOCK * other) marks)) e
      (same_after BLOCK (BLOCK * other) (place - BLOCK * other) marks there (omega arith))))
      (cases_lt place (BLOCK * other))

  -- the count of its block can take it
  pub count_changes : CountChanges there (get_or counts block 0)
  count_changes = subst (CountChanges there) (sym (c.counted block)) (changes there _ (count-le marks block) here.1)

  -- with that count changed, the blocks are counted
  pub counted_put : Counted (set marks place there) (set counts block (count_with there (get_or counts block 0)))
  counted_put = record {
    blocks = length-set counts block _ ∙ (c.blocks ∙ ap (λ (n : ℕ). n / BLOCK + 1) (sym (length-set marks place there)));
    counted = λ other. ⊎_elim
        (λ (same : other ≡ block).
        subst (λ (b : ℕ). get_or (set counts block (count_with there (get_or counts block 0))) b 0 ≡ count_of (set marks place there) b) (sym same)
        (get_or-set_same counts block _ 0 (omega (arith, c.blocks)) ∙ (ap (count_with there) (c.counted block) ∙ sym (here.0))))
        (λ (apart : other ≡ block → ⊥). get_or-set_other counts block other _ 0 apart ∙ (c.counted other ∙ sym (elsewhere other apart)))
        (cases_eq other block);
  }

-- ---- all places

module _ (size : ℕ) where
  abbrev last : ℕ
  last = size / BLOCK

  abbrev full_list : List ℕ
  full_list = set (replicate (last + 1) BLOCK) last (size % BLOCK)

  full_at : (block : ℕ) → get_or full_list block 0 ≡ count_of (replicate size true) block
  unfolding count_of
  full_at block = ⊎_elim
      (λ (below : block < last).
      get_or-set_other (replicate (last + 1) BLOCK) last block (size % BLOCK) 0 (λ e. omega arith)
      ∙ (get_or-replicate (last + 1) block BLOCK 0 (omega arith) ∙ sym (marked_full BLOCK (BLOCK * block) size (omega arith))))
      (λ (beyond : last ≤ block). ⊎_elim
      (λ (same : block ≡ last).
      subst (λ (b : ℕ). get_or full_list b 0 ≡ marked (take BLOCK (drop (BLOCK * b) (replicate size true)))) (sym same)
      (get_or-set_same (replicate (last + 1) BLOCK) last (size % BLOCK) 0 (rw (length-replicate (last + 1) BLOCK) (omega arith))
      ∙ (let e : size % BLOCK ≡ size - BLOCK * last = omega arith in e ∙ sym (marked_rest BLOCK (BLOCK * last) size (omega arith)))))
      (λ (apart : block ≡ last → ⊥).
      get_or_past full_list block 0 (rw (length-set (replicate (last + 1) BLOCK) last (size % BLOCK), length-replicate (last + 1) BLOCK) (omega arith))
      ∙ (let e : 0 ≡ size - BLOCK * block = omega arith in e ∙ sym (marked_rest BLOCK (BLOCK * block) size (omega arith))))
      (cases_eq block last))
      (cases_lt block last)

  pub counted_full : Counted (replicate size true) full_list
  counted_full = record {
    blocks = length-set (replicate (last + 1) BLOCK) last (size % BLOCK) ∙ (length-replicate (last + 1) BLOCK ∙ ap (λ (n : ℕ). n / BLOCK + 1) (sym (length-replicate size true)));
    counted = full_at;
  }
