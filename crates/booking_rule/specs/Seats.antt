-- What the rule says of the seats: which is the recorder's, which numbers are given, what each has seen, and whose the
-- receipts are.
use Rattle.std.specs.Prelude.{◌≡◌, ℕ, ◌+◌, ◌*◌, ◌<◌, ◌≤◌, max, if◌then◌else◌, ◌==◌, List, [], length, Option, Some, None}
use mathlib.Core.Option.{some}
use mathlib.Core.List.{IsPrefix}
use lib.ListN.{get_elem?}
use Rattle.farm_types.specs.declared.entry.Entry.{Entry}
use Rattle.booking_rule.specs.declared.view.View.{View}
use Rattle.booking_rule.specs.declared.desk.Desk.{Desk}
use Rattle.booking_rule.specs.declared.noted.Noted.{Noted}
use Rattle.booking_rule.specs.declared.opening.Opening.{Opening}
use Rattle.booking_rule.specs.Totals.{total}
use Rattle.booking_rule.specs.Rule.{in_flight, limit_in_flight}

-- ---- who may have a take in flight

abbrev pub desk_seats : Option Desk → ℕ
desk_seats (Some d) = if d.split == 0 then 1 else 0
desk_seats None = 0

abbrev pub number_seats : Option ℕ → ℕ
number_seats (Some n) = 1
number_seats None = 0

abbrev pub seats : View → ℕ
seats v = desk_seats v.desk + number_seats v.number

abbrev pub is_place : ℕ → ℕ → ℕ
is_place place n = if n == place then 1 else 0

abbrev pub receipts_at : ℕ → View → ℕ
receipts_at place v = total (is_place place) v.receipts

-- ---- one view

pub record HoldsNone (v : View) : Type 0 where
  pub takes : v.takes ≡ []
  pub limits : v.limits ≡ []
  pub rooms : v.rooms ≡ []
  pub claims : v.claims ≡ []

-- the recorder's seat, or one with a number; the others are notes, and what is left of notes
abbrev pub IsSeated : View → Type 0
IsSeated v = (v.desk ≡ None) × (v.number ≡ None) → ⊥

-- The recorder's seat is the one with a desk, which is as the rule says; a numbered one has a number that was given.
-- What a view has seen, and what it was told, is a front of the journal and of the recorder's trail. Who is no seat
-- holds nothing.
pub record Fits (seat : ℕ) (opening : Opening) (desk : Desk) (log : List Entry) (trail : List Noted) (names : ℕ → ℕ) (id : ℕ) (v : View)
    : Type 0 where
  pub first : (d : Desk) → v.desk ≡ Some d → (id ≡ seat) × (d ≡ desk) × (v.journal ≡ log) × (v.trail ≡ trail)
  pub number : (n : ℕ) → v.number ≡ Some n → (n < desk.split) × (names n ≡ id)
  pub prefix : IsPrefix v.journal log
  pub told : IsPrefix v.told log
  pub desk_trail : IsPrefix v.desk_trail trail
  pub told_trail : IsPrefix v.told_trail trail
  pub same : IsSeated v → v.opening ≡ opening
  pub flight : (sub : ℕ) → in_flight sub v.ungranted ≤ 1000000 * seats v
  pub limit_flight : (limit : ℕ) → limit_in_flight limit v.ungranted_limit ≤ seats v
  pub idle : v.desk ≡ None → v.number ≡ None → HoldsNone v

-- ---- all of them

-- At most 64 numbers are given. A seat that may have a take in flight is the recorder's while it gave no number, or a
-- numbered one. Each place of the journal has at most one receipt.
pub record Seats (seat : ℕ) (opening : Opening) (desk : Desk) (log : List Entry) (trail : List Noted) (views : List View) : Type 0 where
  pub names : ℕ → ℕ
  pub split : desk.split ≤ 64
  pub allowed : total seats views ≡ max 1 desk.split
  pub one_receipt : (place : ℕ) → total (receipts_at place) views ≤ 1
  pub receipts_within : (place : ℕ) → length log ≤ place → total (receipts_at place) views ≡ 0
  pub each : (id : ℕ) (v : View) → get_elem? views id ≡ some v → Fits seat opening desk log trail names id v
