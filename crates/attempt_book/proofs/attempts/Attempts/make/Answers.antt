use Rattle.attempt_book.proofs.KeptSums.{made_sums}
use Rattle.attempt_book.proofs.KeptWays.{made_ways}
use Rattle.attempt_book.proofs.KnownAttempts.{booked_made, lists_made, made_known, subs_made}
use Rattle.attempt_book.proofs.attempts.Attempts.make.Goals as goal

pub invariant_of-result : goal.invariant_of-result
invariant_of-result c =
    let none = c.in_ok-with_capacity.ensures.items in
    record {
      known = made_known _ (lists_made _ _ (subs_made _ c.in_ok-make.ensures) none);
      sums = made_sums _ _ _ _ none (booked_made _ c.in_ok-make.ensures) (c.in_ok-vec.ensures.items_if_clones_equal (λ y h. h)) (c.in_ok-vec-2.ensures.items_if_clones_equal (λ y h. h));
      ways = made_ways _ _ _ none (c.in_ok-vec-3.ensures.items_if_clones_equal (λ y h. h)) (c.in_ok-vec-4.ensures.items_if_clones_equal (λ y h. h));
      capacity = c.in_ok-with_capacity.ensures.capacity;
    }

pub returns : goal.returns
returns c = lists_made _ _ (subs_made _ c.in_ok-make.ensures) c.in_ok-with_capacity.ensures.items
