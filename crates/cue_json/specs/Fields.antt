-- What an object's field reads as, with the fault that stands in its place.
use Rattle.std.specs.Prelude.{◌≡◌, ℕ, ℤ, Bool, List, [], ◌∷◌, ⊤, Option, Some, None, option_and_then, is_some, Result, Ok, Err, nat_le, int_le, bytes_eq, ◌&&◌, if◌then◌else◌}
use Rattle.std.specs.List.{list_any}
use Rattle.std.specs.Ordering.{match_ordering, nat_cmp}
use Rattle.std.specs.Cmp.Lexicographic.{slice_cmp}
use Rattle.serde_json.specs.Data.{Data, Items, Members, no_members, member}
use Rattle.serde_json.specs.Find.{get_member, as_str, as_number, as_u64, as_i64, as_bool, as_array, as_object}
use Rattle.cue_json.specs.declared.fault.FieldFault.{FieldFault}
use Rattle.cue_json.specs.declared.fault.FieldFault.TheVariants as faults

-- what is at fault, and the name of the field
pub data Fault : Type 0 where
  Missing : List ℕ → Fault
  WrongKind : List ℕ → Fault
  Unknown : List ℕ → Fault

-- the name that a fault carries
abbrev pub field_of : Fault → List ℕ
field_of (Missing field) = field
field_of (WrongKind field) = field
field_of (Unknown field) = field

infixl 10 ◌>>=◌
-- what reads next, unless there was a fault
abbrev pub ◌>>=◌ : {A B E : Type 0} → Result A E → (A → Result B E) → Result B E
(Ok x) >>= f = f x
(Err e) >>= f = Err e

-- ---- what a call answers

-- the fault of the call is that of the reading, or memory ran out
abbrev pub Fails : {Y : Type 0} → FieldFault → Result Y Fault → Type 0
Fails faults.NoMemory read = Unit {0}
Fails (faults.Missing field) read = read ≡ Err (Missing field)
Fails (faults.WrongKind field) read = read ≡ Err (WrongKind field)
Fails (faults.Unknown field) read = read ≡ Err (Unknown field)

-- what the call returned, seen by view, is what was to be read
abbrev pub Gives : {X Y : Type 0} → (X → Y) → Result X FieldFault → Result Y Fault → Type 0
Gives view (Ok x) read = read ≡ Ok (view x)
Gives view (Err e) read = Fails e read

-- the fault is this one, or memory ran out
abbrev pub Names : FieldFault → Fault → Type 0
Names faults.NoMemory fault = Unit {0}
Names (faults.Missing field) fault = fault ≡ Missing field
Names (faults.WrongKind field) fault = fault ≡ WrongKind field
Names (faults.Unknown field) fault = fault ≡ Unknown field

-- ---- one field

-- what the value is read as, or that it is of another kind
abbrev pub of_kind : {X : Type 0} → List ℕ → Option X → Result X Fault
of_kind field None = Err (WrongKind field)
of_kind field (Some x) = Ok x

-- what the member that was looked up is read as, or that it is missing
abbrev pub of_member : {X : Type 0} → List ℕ → (Data → Option X) → Option Data → Result X Fault
of_member field kind None = Err (Missing field)
of_member field kind (Some d) = of_kind field (kind d)

-- the field of the object, of a kind
abbrev pub field_at : {X : Type 0} → List ℕ → (Data → Option X) → Members → Result X Fault
field_at field kind ms = of_member field kind (get_member field ms)

-- the number, where it is within the range
abbrev pub whole_in : ℕ → ℕ → ℕ → Option ℕ
whole_in least most n = if nat_le least n && nat_le n most then Some n else None

abbrev pub signed_in : ℤ → ℤ → ℤ → Option ℤ
signed_in least most z = if int_le least z && int_le z most then Some z else None

-- a whole number of 64 bits within the range, without and with a sign
abbrev pub as_whole : ℕ → ℕ → Data → Option ℕ
as_whole least most d = option_and_then (whole_in least most) (option_and_then as_u64 (as_number d))

abbrev pub as_signed : ℤ → ℤ → Data → Option ℤ
as_signed least most d = option_and_then (signed_in least most) (option_and_then as_i64 (as_number d))

abbrev pub text_at : List ℕ → Members → Result (List ℕ) Fault
text_at field ms = field_at field as_str ms

abbrev pub whole_at : List ℕ → ℕ → ℕ → Members → Result ℕ Fault
whole_at field least most ms = field_at field (as_whole least most) ms

abbrev pub signed_at : List ℕ → ℤ → ℤ → Members → Result ℤ Fault
signed_at field least most ms = field_at field (as_signed least most) ms

abbrev pub flag_at : List ℕ → Members → Result Bool Fault
flag_at field ms = field_at field as_bool ms

abbrev pub list_at : List ℕ → Members → Result Items Fault
list_at field ms = field_at field as_array ms

abbrev pub object_at : List ℕ → Members → Result Members Fault
object_at field ms = field_at field as_object ms

-- ---- keys

-- whether the key is there, whatever its value
abbrev pub has_key : List ℕ → Members → Bool
has_key field ms = is_some (get_member field ms)

-- the keys, in order
abbrev pub keys_in : Members → List (List ℕ)
keys_in no_members = []
keys_in (member key d ms) = key ∷ keys_in ms

-- whether the key is among the expected ones
abbrev pub is_expected : List (List ℕ) → List ℕ → Bool
is_expected fields key = list_any (λ field. bytes_eq field key) fields

-- the first key that isn't expected
abbrev pub first_other : List (List ℕ) → Members → Option (List ℕ)
first_other fields no_members = None
first_other fields (member key d ms) = if is_expected fields key then first_other fields ms else Some key

-- nothing where each key is expected
abbrev pub no_other : Option (List ℕ) → Result ⊤ Fault
no_other None = Ok tt
no_other (Some key) = Err (Unknown key)

abbrev pub others_at : List (List ℕ) → Members → Result ⊤ Fault
others_at fields ms = no_other (first_other fields ms)

-- the key, or one before it in byte order
abbrev pub lesser : List ℕ → Option (List ℕ) → List ℕ
lesser key None = key
lesser key (Some other) = match_ordering (slice_cmp nat_cmp key other) key other other
