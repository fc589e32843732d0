use Rattle.std.proofs.Common.{arith, rules, ◌≡◌, ◌<◌, ◌++◌, ◌∷◌, [], ◌∙◌, ap, cond, length, subst, sym, true, false, to_z, of_z, w32}
use Rattle.std.specs.List.{list_any}
use Rattle.std.specs.Ordering.{int_eq}
use Rattle.std.proofs.lemmas.Int.{to_z-of_z}
use Rattle.indexmap.specs.IndexSet.{insert_key}
use Rattle.frame_range.specs.Places.{has, with_number}
use Rattle.frame_range.specs.declared.limits.TheConstants.{MOST_NUMBERS}
use Rattle.frame_range.proofs.PlaceLemmas.{has_is, with_is, with_most, with_new}
use Rattle.frame_range.proofs.listing.Listing.list.Goals as goal

pub returns-then-len-lt-MOST_NUMBERS : goal.returns-then-len-lt-MOST_NUMBERS
returns-then-len-lt-MOST_NUMBERS c =
    let old = c.self.inside.numbers.keys in
    let z = c.args.number in
    let view : c.args.self.now ≡ old = search rules in
    let same : to_z w32 (of_z w32 z) ≡ z = to_z-of_z w32 z c.ranges.number in
    let with : c.insert.new.self.keys ≡ with_number old z = c.in_ok-insert.ensures.keys ∙ ap (λ n. insert_key int_eq old n) same ∙ with_is z old in
    (with ∙ ap (λ zs. with_number zs z) (sym view), omega (arith, ap length with, with_most z old, c.len.ensures.len, c.if-len-lt-MOST_NUMBERS.true))

pub returns-then-contains : goal.returns-then-contains
returns-then-contains c =
    let old = c.self.inside.numbers.keys in
    let z = c.args.number in
    let view : c.args.self.now ≡ old = search rules in
    let same : to_z w32 (of_z w32 z) ≡ z = to_z-of_z w32 z c.ranges.number in
    let there : has old z ≡ true = sym (has_is z old) ∙ ap (λ n. list_any (int_eq n) old) (sym same) ∙ sym c.contains.ensures ∙ c.if-contains.true in
    (view ∙ ap (λ b. cond b old (old ++ z ∷ [])) (sym there) ∙ ap (λ zs. with_number zs z) (sym view), omega (arith, ap length view, c.self.invariant))

pub returns : goal.returns
returns c =
    let old = c.self.inside.numbers.keys in
    let z = c.args.number in
    let view : c.args.self.now ≡ old = search rules in
    let same : to_z w32 (of_z w32 z) ≡ z = to_z-of_z w32 z c.ranges.number in
    let absent : has old z ≡ false = sym (has_is z old) ∙ ap (λ n. list_any (int_eq n) old) (sym same) ∙ sym c.contains.ensures ∙ c.if-contains.false in
    subst (λ zs. MOST_NUMBERS < length (with_number zs z)) (sym view) (omega (arith, with_new z old absent, c.len.ensures.len, c.if-len-lt-MOST_NUMBERS.false))
