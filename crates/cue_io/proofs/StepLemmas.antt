-- The steps of a call.
use Rattle.std.proofs.Common.{◌≡◌, ℕ, ◌+◌, ◌<◌, ◌≤◌, Bool, true, false, ◌||◌, nat_lt, List, [], ◌++◌, length, if◌then◌else◌, refl, sym, ap, ◌∙◌, subst, arith, append_assoc, append-nil, length-append, true≢false}
use Rattle.std.proofs.lemmas.List.Folds.{list_any-append}
use Rattle.std.proofs.lemmas.Bool.{ltb-true, ltb-false}
use Rattle.cue_io.specs.Lines.{has_newline, is_newline}
use Rattle.cue_io.specs.Reader.{Held, IsPending, ArePassed}
use Rattle.cue_io.specs.Steps.{GoesOn, filled, is_long, passed_over}
use Rattle.cue_io.specs.declared.limits.TheConstants.{BYTE_LIMIT}

-- two lists without a newline, one after the other
pub none_joined : (first second : List ℕ) → has_newline first ≡ false → has_newline second ≡ false → has_newline (first ++ second) ≡ false
none_joined first second none_first none_second =
    list_any-append is_newline first second ∙ ap (λ b. b || has_newline second) none_first ∙ none_second

-- the bytes let go and those held are of one line
pub pending_in_line : (passing : Bool) (limit : ℕ) (passed bytes : List ℕ) → ArePassed passing limit passed → has_newline bytes ≡ false
    → has_newline (passed ++ bytes) ≡ false
pending_in_line false limit passed bytes are none = none_joined passed bytes (ap has_newline are) none
pending_in_line true limit passed bytes are none = none_joined passed bytes are.in_line none

-- a line that is too long, with the bytes that were let go
pub pending_long : (passing : Bool) (limit : ℕ) (passed bytes : List ℕ) (count : ℕ) → length bytes ≡ count → ArePassed passing limit passed
    → (passing || nat_lt limit count) ≡ true → limit < length (passed ++ bytes)
pending_long false limit passed bytes count is are long = omega (arith, ltb-true limit count long, length-append passed bytes)
pending_long true limit passed bytes count is are long = omega (arith, are.long, length-append passed bytes)

-- of a line that isn't too long no byte was let go
pub none_passed : (passing : Bool) (limit : ℕ) (passed : List ℕ) (count : ℕ) → ArePassed passing limit passed
    → (passing || nat_lt limit count) ≡ false → passed ≡ []
none_passed false limit passed count are short = are
none_passed true limit passed count are short = absurd (true≢false short)

-- a line that isn't too long
pub within_limit : (passing : Bool) (limit count : ℕ) → (passing || nat_lt limit count) ≡ false → count ≤ limit
within_limit false limit count short = ltb-false limit count short
within_limit true limit count short = absurd (true≢false short)

-- nothing was done yet
pub GoesOn-start : (reader : Held) → reader.ended ≡ false → reader.taken ≤ BYTE_LIMIT → GoesOn reader [] reader
GoesOn-start reader going within = record {
  limit_is = refl;
  was_going = going;
  going = going;
  taken_is = omega arith;
  within = within;
  no_more = omega arith;
  pending = λ before is. subst (λ (pending : List ℕ). IsPending reader pending) (sym (append-nil before)) is;
}

-- the reader let go what it holds, if the line is too long
passed_by : (long : Bool) (old mid : Held) (took : List ℕ) → is_long mid (length mid.bytes) ≡ long → GoesOn old took mid
    → has_newline mid.bytes ≡ false
    → GoesOn old took (if long then record mid { passing = true; bytes = []; line = [] } else mid)
passed_by false old mid took is goes none = goes
passed_by true old mid took is goes none = record {
  limit_is = goes.limit_is;
  was_going = goes.was_going;
  going = goes.going;
  taken_is = goes.taken_is;
  within = goes.within;
  no_more = let so_far = goes.no_more in omega arith;
  pending = λ before is_pending. let at = goes.pending before is_pending in record {
    passed = at.passed ++ mid.bytes;
    are_passed = record {
      in_line = pending_in_line mid.passing mid.limit at.passed mid.bytes at.are_passed none;
      long = pending_long mid.passing mid.limit at.passed mid.bytes (length mid.bytes) refl at.are_passed is;
    };
    pending_is = at.pending_is ∙ sym (append-nil (at.passed ++ mid.bytes));
  };
}

pub GoesOn-passed : (old mid : Held) (took : List ℕ) → GoesOn old took mid → has_newline mid.bytes ≡ false → GoesOn old took (passed_over mid)
GoesOn-passed old mid took goes none = passed_by (is_long mid (length mid.bytes)) old mid took refl goes none

-- the reader took more
pub GoesOn-filled : (old mid : Held) (took fresh : List ℕ) → GoesOn old took mid → mid.taken + length fresh ≤ BYTE_LIMIT
    → GoesOn old (took ++ fresh) (filled mid fresh)
GoesOn-filled old mid took fresh goes within = record {
  limit_is = goes.limit_is;
  was_going = goes.was_going;
  going = goes.going;
  taken_is = omega (arith, goes.taken_is, length-append took fresh);
  within = within;
  no_more = omega (arith, goes.no_more, length-append mid.bytes fresh);
  pending = λ before is_pending. let at = goes.pending before is_pending in record {
    passed = at.passed;
    are_passed = at.are_passed;
    pending_is =
        sym (append_assoc before took fresh)
        ∙ ap (λ bytes. bytes ++ fresh) at.pending_is
        ∙ append_assoc at.passed mid.bytes fresh;
  };
}
