-- The order of edges: by their depends, then by themselves.
use Rattle.std.proofs.Common.{◌≡◌, ◌<◌, ℕ, Bool, true, false, eqb, ltb, refl, sym, ap, ◌∙◌, ◌⊎◌, inl, inr, arith, Option, Some, None, List}
use Rattle.std.specs.Prelude.{◌&&◌, ◌||◌}
use Rattle.std.proofs.lemmas.Bool.{cases_Bool, cases_order, eq-eqb, eqb-true, lt-ltb, ltb-true, false≢true}
use Rattle.depend_edges.specs.Ways.{IsEdge, IsLast, is_ahead_of, is_before, is_past}
use Rattle.depend_edges.specs.declared.links.Edge.{Edge}
use Rattle.depend_edges.specs.declared.links.EdgeAt.{EdgeAt}

abbrev pub Before : ℕ → ℕ → ℕ → ℕ → Type 0
Before p i q j = (p < q) ⊎ ((p ≡ q) × (i < j))

pub before_true : (p i q j : ℕ) → Before p i q j → is_before p i q j ≡ true
before_true p i q j (inl lower) = ap (λ b. b || (eqb p q && ltb i j)) (lt-ltb p q lower)
before_true p i q j (inr same) = rw (eq-eqb p q same.0, lt-ltb i j same.1) (or_true (ltb p q)) where
  or_true : (b : Bool) → (b || (true && true)) ≡ true
  or_true true = refl
  or_true false = refl

pub true_before : (p i q j : ℕ) → is_before p i q j ≡ true → Before p i q j
true_before p i q j is = by_first (ltb p q) (eqb p q) (ltb i j) refl refl refl is where
  by_first : (a b c : Bool) → ltb p q ≡ a → eqb p q ≡ b → ltb i j ≡ c → (a || (b && c)) ≡ true → Before p i q j
  by_first true b c lower same less is = inl (ltb-true p q lower)
  by_first false true true lower same less is = inr (eqb-true p q same, ltb-true i j less)
  by_first false true false lower same less is = absurd (false≢true is)
  by_first false false c lower same less is = absurd (false≢true is)

pub before_false : (p i q j : ℕ) → (Before p i q j → ⊥) → is_before p i q j ≡ false
before_false p i q j never = by_test (cases_Bool (is_before p i q j)) where
  by_test : (is_before p i q j ≡ true) ⊎ (is_before p i q j ≡ false) → is_before p i q j ≡ false
  by_test (inl is) = absurd (never (true_before p i q j is))
  by_test (inr not_so) = not_so

pub order : (p i q j : ℕ) → (Before p i q j) ⊎ ((Before q j p i) ⊎ ((p ≡ q) × (i ≡ j)))
order p i q j =
    elim (cases_order p q) as (λ c. (Before p i q j) ⊎ ((Before q j p i) ⊎ ((p ≡ q) × (i ≡ j)))) [
      | inl same ↦
          elim (cases_order i j) as (λ c. (Before p i q j) ⊎ ((Before q j p i) ⊎ ((p ≡ q) × (i ≡ j)))) [
            | inl one ↦ inr (inr (same, one))
            | inr (inl lower) ↦ inl (inr (same, lower))
            | inr (inr higher) ↦ inr (inl (inr (sym same, higher)))
          ]
      | inr (inl lower) ↦ inl (inl lower)
      | inr (inr higher) ↦ inr (inl (inl higher))
    ]

pub never_both : (p i q j : ℕ) → Before p i q j → Before q j p i → ⊥
never_both p i q j (inl a) (inl b) = absurd (omega arith)
never_both p i q j (inl a) (inr b) = absurd (omega (arith, b.0))
never_both p i q j (inr a) (inl b) = absurd (omega (arith, a.0))
never_both p i q j (inr a) (inr b) = absurd (omega (arith, a.1, b.1))

pub before_then : (p i q j r k : ℕ) → Before p i q j → Before q j r k → Before p i r k
before_then p i q j r k (inl a) (inl b) = inl (omega arith)
before_then p i q j r k (inl a) (inr b) = inl (omega (arith, b.0))
before_then p i q j r k (inr a) (inl b) = inl (omega (arith, a.0))
before_then p i q j r k (inr a) (inr b) = inr (a.0 ∙ b.0, omega (arith, a.1, b.1))

pub never_itself : (p i : ℕ) → is_before p i p i ≡ false
never_itself p i = before_false p i p i (λ b. never_both p i p i b b)

-- what is past once the way has gone on from an edge of the slot: that edge, and what was past
past_here : (a : EdgeAt) (next : Option EdgeAt) → ((n : EdgeAt) → next ≡ Some n → is_before n.depend n.edge a.depend a.edge ≡ true) → is_past next a.depend a.edge ≡ true
past_here a None ahead = refl
past_here a (Some n) ahead = ahead n refl

past_later : (a : EdgeAt) (next : Option EdgeAt) (p i : ℕ) → ((n : EdgeAt) → next ≡ Some n → is_before n.depend n.edge a.depend a.edge ≡ true) → Before a.depend a.edge p i → is_past next p i ≡ true
past_later a None p i ahead later = refl
past_later a (Some n) p i ahead later = before_true n.depend n.edge p i (before_then n.depend n.edge a.depend a.edge p i (true_before n.depend n.edge a.depend a.edge (ahead n refl)) later)

module _ (lists : List (List Edge)) (slot : ℕ) (a : EdgeAt) (next : Option EdgeAt) (last : IsLast lists slot (is_ahead_of a.depend a.edge) next) where
  pub past_at : is_past next a.depend a.edge ≡ true
  past_at = past_here a next last.wanted_one

  pub not_past_at : is_past (Some a) a.depend a.edge ≡ false
  not_past_at = never_itself a.depend a.edge

  pub past_same : (p i : ℕ) (e : Edge) → IsEdge lists p i e → e.slot ≡ slot → ((p ≡ a.depend) × (i ≡ a.edge) → ⊥) → is_past next p i ≡ is_past (Some a) p i
  past_same p i e there on apart =
      elim (order p i a.depend a.edge) as (λ c. is_past next p i ≡ is_past (Some a) p i) [
        | inl earlier ↦ last.last p i e there on (before_true p i a.depend a.edge earlier) ∙ sym (before_false a.depend a.edge p i (λ later. never_both p i a.depend a.edge earlier later))
        | inr (inl later) ↦ past_later a next p i last.wanted_one later ∙ sym (before_true a.depend a.edge p i later)
        | inr (inr same) ↦ absurd (apart same)
      ]
