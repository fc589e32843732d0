-- The way along a slot's edges comes to its end.
use Rattle.std.proofs.Common.{◌≡◌, ◌<◌, ℕ, ◌+◌, ◌*◌, Option, Some, None, true, refl, ◌⊎◌, inl, inr, arith}
use Rattle.depend_edges.specs.Ways.{is_before}
use Rattle.depend_edges.specs.declared.links.EdgeAt.{EdgeAt}
use Rattle.depend_edges.proofs.Before.{true_before}

-- a bound on how many edges there are up to that one
abbrev pub steps_left : Option EdgeAt → ℕ
steps_left None = 0
steps_left (Some at) = 4294967296 * at.depend + at.edge + 1

pub steps_fall : (a : EdgeAt) (next : Option EdgeAt) → ((n : EdgeAt) → next ≡ Some n → is_before n.depend n.edge a.depend a.edge ≡ true) → ((n : EdgeAt) → next ≡ Some n → n.edge < 4294967296)
    → steps_left next < steps_left (Some a)
steps_fall a None ahead within = omega arith
steps_fall a (Some n) ahead within = by_order (true_before n.depend n.edge a.depend a.edge (ahead n refl)) (within n refl) where
  by_order : (n.depend < a.depend) ⊎ ((n.depend ≡ a.depend) × (n.edge < a.edge)) → n.edge < 4294967296 → steps_left (Some n) < steps_left (Some a)
  by_order (inl lower) small = omega arith
  by_order (inr same) small = omega (arith, same.0, same.1)
