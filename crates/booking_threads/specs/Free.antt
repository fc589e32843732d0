-- What a seat is like between its calls.
use Rattle.std.specs.Prelude.{◌≡◌, None}
use Rattle.booking_rule.specs.declared.view.View.{View}

-- the same seat, with nothing in flight
pub record StaysFree (v w : View) : Type 0 where
  pub desk : w.desk ≡ v.desk
  pub number : w.number ≡ v.number
  pub ungranted : w.ungranted ≡ None
  pub ungranted_limit : w.ungranted_limit ≡ None
