-- A seat that stays free may go on taking and giving, and the first one may be split again.
use Rattle.std.proofs.Common.{◌≡◌, ◌+◌, ◌∙◌, sym, ap, arith}
use Rattle.std.specs.Prelude.{Some, None}
use Rattle.booking_rule.specs.declared.view.View.{View}
use Rattle.booking_rule.specs.Kept.{first_view, no_desk}
use Rattle.booking_rule.specs.Seats.{desk_seats, number_seats}
use Rattle.booking_rule.specs.Splits.{MaySplit, desk_split, one_more, one_split}
use Rattle.booking_core.specs.Machine.{CanTake, MayGive}
use Rattle.booking_threads.specs.Free.{StaysFree}

pub may_take : (v w : View) → StaysFree v w → CanTake v → MayGive v → CanTake w × MayGive w
may_take v w stays can may = (
  ((λ i. desk_seats (stays.desk i) + number_seats (stays.number i)) ∙ can.0, stays.ungranted, stays.ungranted_limit),
  ((λ none. may.0 (sym stays.desk ∙ none.0, sym stays.number ∙ none.1)), (λ d is. may.1 d (sym stays.desk ∙ is))),
)

some_none : {A : Type 0} {x : A} → Some x ≡ None → ⊥
some_none e = cc

pub may_split_again : (v w x : View) → v ≡ first_view → StaysFree v w → x ≡ one_more w → MaySplit x
may_split_again v w x is stays split = (
  one_split no_desk,
  ap (λ (y : View). y.desk) split ∙ ap desk_split (stays.desk ∙ ap (λ (y : View). y.desk) is),
  ap (λ (y : View). y.ungranted) split ∙ stays.ungranted,
  ap (λ (y : View). y.ungranted_limit) split ∙ stays.ungranted_limit,
  omega arith,
  some_none,
)
