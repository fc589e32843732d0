-- Texts in byte order.
use Rattle.std.proofs.Common.{◌≡◌, ℕ, List, Less, Equal, Greater, ap, ◌∙◌}
use Rattle.std.specs.Ordering.{nat_cmp, ordering_reverse}
use Rattle.std.specs.Cmp.Lexicographic.{nat_list_cmp_total, slice_cmp}
use Rattle.std.proofs.lemmas.Map.Lookups.{exact_bytes}

pub before : (k l m : List ℕ) → slice_cmp nat_cmp k l ≡ Less → slice_cmp nat_cmp l m ≡ Less → slice_cmp nat_cmp k m ≡ Less
before k l m first second = nat_list_cmp_total.trans k l m first second

pub turned : (k l : List ℕ) → slice_cmp nat_cmp k l ≡ Greater → slice_cmp nat_cmp l k ≡ Less
turned k l is = nat_list_cmp_total.antisymm l k ∙ ap ordering_reverse is

pub same : (k l : List ℕ) → slice_cmp nat_cmp k l ≡ Equal → k ≡ l
same k l is = exact_bytes k l is
