-- Which frames are done, where one may not be any more.
use Rattle.std.proofs.Common.{◌≡◌, ℕ, ◌&&◌, ◌||◌, not, Bool, true, false, List, None, refl, sym, ap, ◌∙◌}
use Rattle.depend_book.proofs.OneCleared.{and_one}
use Rattle.farm_depends.specs.declared.follow.Follow.{Follow}
use Rattle.farm_depends.specs.Follow.{is_listed, is_one}

-- where none is named
pub none_reopened : (was : Bool) → was ≡ ((was && true) || false)
none_reopened true = refl
none_reopened false = refl

pub done_listed : (was : Bool) (list : List ℕ) (w : Follow) (slot : ℕ) → w.done ≡ list → w.reopened ≡ None → (was || is_listed list slot) ≡ ((was && not (is_one w.reopened slot)) || is_listed w.done slot)
done_listed was list w slot done reopened =
    ap (λ (b : Bool). b || is_listed list slot) (sym (and_one was))
    ∙ λ i. (was && not (is_one (sym reopened i) slot)) || is_listed (sym done i) slot
