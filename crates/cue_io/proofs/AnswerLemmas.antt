-- What a call answers after its steps.
use Rattle.std.proofs.Common.{◌≡◌, ℕ, ◌+◌, ◌<◌, ◌≤◌, Bool, true, false, ◌==◌, List, [], ◌∷◌, ◌++◌, length, take, drop, if◌then◌else◌, Option, None, Some, ◌-◌, Ok, Err, inl, inr, refl, sym, ap, ◌∙◌, subst, arith, append_assoc, append-nil, length-append, length-drop, length-take, true≢false, eqb-true}
use Rattle.std.proofs.lemmas.List.{take-append-drop, nil_from_length}
use Rattle.std.proofs.Math.Seq.{take-append_seam}
use Rattle.std.proofs.lemmas.Bool.{eqb-false}
use Rattle.cue_io.specs.declared.line.Found.{Found}
use Rattle.cue_io.specs.declared.line.Found.TheVariants.{Bytes, TooLong, End}
use Rattle.cue_io.specs.declared.line.LineFault.TheVariants.{Read, Spent}
use Rattle.cue_io.specs.Input.{Takes, Takes-none, Takes-append}
use Rattle.std.proofs.lemmas.List.Folds.{list_any-append}
use Rattle.cue_io.specs.Lines.{has_newline, is_newline, or-false-right}
use Rattle.cue_io.specs.Reader.{WasNeeded, Held, IsPending, ArePassed, Goes, Moves, Leaves, IsUncut, AtEnd, ends_left}
use Rattle.cue_io.specs.Steps.{Fetches, GoesOn, IsFirstNewline, IsSound, after_last, after_line, found_at, found_last, is_long, passed_over, shown_as}
use Rattle.cue_io.proofs.StepLemmas.{none_joined, pending_in_line, pending_long, none_passed, within_limit, GoesOn-passed, GoesOn-filled}
use Rattle.cue_io.specs.declared.limits.TheConstants.{BYTE_LIMIT}

-- the source of a reader can still end
still : (ended : Bool) → ended ≡ false → ends_left ended ≡ 1
still false is = refl
still true is = absurd (true≢false is)

-- the line up to the first newline, by whether it is too long
leaves_line : (long : Bool) (old mid : Held) (took : List ℕ) (at : ℕ) (before : List ℕ) → is_long mid at ≡ long
    → GoesOn old took mid → at < length mid.bytes → IsFirstNewline mid.bytes at → IsPending old before
    → Leaves old before took (shown_as (Ok (if long then TooLong else Bytes)) (take at mid.bytes)) (after_line mid at)
leaves_line false old mid took at before is goes inside first is_pending =
    let pending = goes.pending before is_pending in
    let none = none_passed mid.passing mid.limit pending.passed at pending.are_passed is in
    let short = within_limit mid.passing mid.limit at is in
    record {
      rest = drop (at + 1) mid.bytes;
      is_pending = record { passed = []; are_passed = refl; pending_is = refl };
      cuts = (
        inl (record {
          cut =
              pending.pending_is
              ∙ ap (λ passed. passed ++ mid.bytes) none
              ∙ sym (take-append-drop at mid.bytes)
              ∙ ap (λ rest. take at mid.bytes ++ rest) first.here;
          in_line = first.before;
          going = goes.going;
        }),
        omega (arith, length-take at mid.bytes, short, goes.limit_is),
      );
    }
leaves_line true old mid took at before is goes inside first is_pending =
    let pending = goes.pending before is_pending in
    let count : length (take at mid.bytes) ≡ at = omega (arith, length-take at mid.bytes) in
    let long = pending_long mid.passing mid.limit pending.passed (take at mid.bytes) at count pending.are_passed is in
    record {
      rest = drop (at + 1) mid.bytes;
      is_pending = record { passed = []; are_passed = refl; pending_is = refl };
      cuts = (
        pending.passed ++ take at mid.bytes,
        inl (record {
          cut =
              pending.pending_is
              ∙ ap (λ bytes. pending.passed ++ bytes) (sym (take-append-drop at mid.bytes) ∙ ap (λ rest. take at mid.bytes ++ rest) first.here)
              ∙ sym (append_assoc pending.passed (take at mid.bytes) (10 ∷ drop (at + 1) mid.bytes));
          in_line = pending_in_line mid.passing mid.limit pending.passed (take at mid.bytes) pending.are_passed first.before;
          going = goes.going;
        }),
        subst (λ (limit : ℕ). limit < length (pending.passed ++ take at mid.bytes)) goes.limit_is long,
      );
    }

-- the line up to the first newline
Goes-line : (old mid : Held) (took : List ℕ) (at : ℕ) → GoesOn old took mid → at < length mid.bytes → IsFirstNewline mid.bytes at
    → Goes old took (shown_as (Ok (found_at mid at)) (after_line mid at).line) (after_line mid at)
Goes-line old mid took at goes inside first = record {
  limit_is = goes.limit_is;
  taken_is = goes.taken_is;
  within = goes.within;
  unspent = λ ended. absurd (true≢false (sym ended ∙ goes.going));
  at_end = λ ended. absurd (true≢false (sym ended ∙ goes.was_going));
  fewer = λ given. omega (arith, goes.no_more, length-drop (at + 1) mid.bytes, still mid.ended goes.going, still old.ended goes.was_going);
  leaves = λ before is_pending. leaves_line (is_long mid at) old mid took at before refl goes inside first is_pending;
}

-- what is held at the end of the source, by whether it is too long and whether it is nothing
leaves_last : (long none : Bool) (old mid : Held) (took before : List ℕ) → is_long mid (length mid.bytes) ≡ long
    → (length mid.bytes == 0) ≡ none → GoesOn old took mid → has_newline mid.bytes ≡ false → IsPending old before
    → Leaves old before took (shown_as (Ok (if long then TooLong else (if none then End else Bytes))) mid.bytes) (after_last mid)
leaves_last true none old mid took before is none_is goes in_line is_pending =
    let pending = goes.pending before is_pending in
    let long = pending_long mid.passing mid.limit pending.passed mid.bytes (length mid.bytes) refl pending.are_passed is in
    record {
      rest = [];
      is_pending = record { passed = []; are_passed = refl; pending_is = refl };
      cuts = (
        pending.passed ++ mid.bytes,
        inr (record {
          cut = pending.pending_is;
          in_line = pending_in_line mid.passing mid.limit pending.passed mid.bytes pending.are_passed in_line;
          some = omega (arith, long);
          none_left = refl;
          ended = refl;
        }),
        subst (λ (limit : ℕ). limit < length (pending.passed ++ mid.bytes)) goes.limit_is long,
      );
    }
leaves_last false true old mid took before is none_is goes in_line is_pending =
    let pending = goes.pending before is_pending in
    let none = none_passed mid.passing mid.limit pending.passed (length mid.bytes) pending.are_passed is in
    record {
      rest = [];
      is_pending = record { passed = []; are_passed = refl; pending_is = refl };
      cuts = record {
        none = pending.pending_is ∙ ap (λ passed. passed ++ mid.bytes) none ∙ nil_from_length mid.bytes (eqb-true (length mid.bytes) 0 none_is);
        none_left = refl;
        ended = refl;
      };
    }
leaves_last false false old mid took before is none_is goes in_line is_pending =
    let pending = goes.pending before is_pending in
    let none = none_passed mid.passing mid.limit pending.passed (length mid.bytes) pending.are_passed is in
    let short = within_limit mid.passing mid.limit (length mid.bytes) is in
    record {
      rest = [];
      is_pending = record { passed = []; are_passed = refl; pending_is = refl };
      cuts = (
        inr (record {
          cut = pending.pending_is ∙ ap (λ passed. passed ++ mid.bytes) none;
          in_line = in_line;
          some = let is_some = eqb-false (length mid.bytes) 0 none_is in omega arith;
          none_left = refl;
          ended = refl;
        }),
        subst (λ (limit : ℕ). length mid.bytes ≤ limit) goes.limit_is short,
      );
    }

-- what is held at the end of the source
Goes-last : (old mid : Held) (took : List ℕ) → GoesOn old took mid → has_newline mid.bytes ≡ false → mid.taken < BYTE_LIMIT
    → Goes old took (shown_as (Ok (found_last mid)) (after_last mid).line) (after_last mid)
Goes-last old mid took goes in_line unspent = record {
  limit_is = goes.limit_is;
  taken_is = goes.taken_is;
  within = goes.within;
  unspent = λ ended. unspent;
  at_end = λ ended. absurd (true≢false (sym ended ∙ goes.was_going));
  fewer = λ given. omega (arith, goes.no_more, still old.ended goes.was_going);
  leaves = λ before is_pending.
      leaves_last (is_long mid (length mid.bytes)) (length mid.bytes == 0) old mid took before refl refl goes in_line is_pending;
}

-- no whole line is held
uncut : (old new : Held) (took before : List ℕ) → GoesOn old took new → has_newline new.bytes ≡ false → IsPending old before
    → IsUncut (before ++ took) (before ++ took) new
uncut old new took before goes in_line is_pending =
    let pending = goes.pending before is_pending in
    record {
      kept = refl;
      in_line = ap has_newline pending.pending_is
          ∙ pending_in_line new.passing new.limit pending.passed new.bytes pending.are_passed in_line;
      going = goes.going;
    }

-- all bytes that the reader may take were taken
Goes-spent : (old new : Held) (took : List ℕ) → GoesOn old took new → has_newline new.bytes ≡ false → new.taken ≡ BYTE_LIMIT
    → Goes old took (Err Spent) new
Goes-spent old new took goes in_line spent = record {
  limit_is = goes.limit_is;
  taken_is = goes.taken_is;
  within = goes.within;
  unspent = λ ended. absurd (true≢false (sym ended ∙ goes.going));
  at_end = λ ended. absurd (true≢false (sym ended ∙ goes.was_going));
  fewer = λ given. absurd given;
  leaves = λ before is_pending. record {
    rest = before ++ took;
    is_pending = goes.pending before is_pending;
    cuts = (uncut old new took before goes in_line is_pending, spent);
  };
}

-- the source failed
Goes-failed : (old mid : Held) (took : List ℕ) → GoesOn old took mid → has_newline mid.bytes ≡ false → mid.taken < BYTE_LIMIT
    → Goes old took (Err Read) (record mid { line = [] })
Goes-failed old mid took goes in_line unspent = record {
  limit_is = goes.limit_is;
  taken_is = goes.taken_is;
  within = goes.within;
  unspent = λ ended. unspent;
  at_end = λ ended. absurd (true≢false (sym ended ∙ goes.was_going));
  fewer = λ given. absurd given;
  leaves = λ before is_pending.
      let pending = goes.pending before is_pending in
      let cut = uncut old mid took before goes in_line is_pending in
      record {
        rest = before ++ took;
        is_pending = record { passed = pending.passed; are_passed = pending.are_passed; pending_is = pending.pending_is };
        cuts = (record { kept = refl; in_line = cut.in_line; going = goes.going }, unspent);
      };
}

-- the source ended before
Goes-ended : (reader : Held) → reader.ended ≡ true → IsSound reader.taken reader.passing reader.ended reader.bytes
    → Goes reader [] (Ok AtEnd) reader
Goes-ended reader ended sound = record {
  limit_is = refl;
  taken_is = omega arith;
  within = sound.within;
  unspent = sound.unspent;
  at_end = λ is. record { answer_is = refl; took_none = refl; same = refl };
  fewer = λ given. absurd given;
  leaves = λ before is_pending.
      let Passed : Bool → Type 0 = λ passing. ArePassed passing reader.limit is_pending.passed in
      let passed : is_pending.passed ≡ [] = subst Passed (sound.still ended) is_pending.are_passed in
      let none : before ≡ [] = is_pending.pending_is ∙ ap (λ bytes. bytes ++ reader.bytes) passed ∙ sound.empty ended in
      record {
        rest = before;
        is_pending = is_pending;
        cuts = record { none = append-nil before ∙ none; none_left = none; ended = ended };
      };
}

-- letting go leaves no newline
none_in_passed : (long : Bool) (mid : Held) → has_newline mid.bytes ≡ false
    → has_newline ((if long then record mid { passing = true; bytes = []; line = [] } else mid).bytes) ≡ false
none_in_passed true mid none = refl
none_in_passed false mid none = none

-- letting go takes nothing
taken_in_passed : (long : Bool) (mid : Held)
    → (if long then record mid { passing = true; bytes = []; line = [] } else mid).taken ≡ mid.taken
taken_in_passed true mid = refl
taken_in_passed false mid = refl

-- a reader that goes on, holds no newline, and may take more
pub record MayFetch (old : Held) (took : List ℕ) (mid : Held) : Type 0 where
  pub goes_on : GoesOn old took mid
  pub none : has_newline mid.bytes ≡ false
  pub unspent : mid.taken < BYTE_LIMIT

-- that holds when the reader has let go the bytes of a line that is too long
pub MayFetch-passed : (old mid pass : Held) (took : List ℕ) → GoesOn old took mid → has_newline mid.bytes ≡ false
    → (mid.taken ≡ BYTE_LIMIT → ⊥) → pass ≡ passed_over mid → MayFetch old took pass
MayFetch-passed old mid pass took goes none unspent is =
    let long = is_long mid (length mid.bytes) in
    subst (λ (reader : Held). MayFetch old took reader) (sym is) (record {
      goes_on = GoesOn-passed old mid took goes none;
      none = none_in_passed long mid none;
      unspent = omega (arith, goes.within, unspent, taken_in_passed long mid);
    })

module _ (old mid new : Held) (took fresh : List ℕ) (left left' : Option (List ℕ)) (count : ℕ) (may : MayFetch old took mid)
    (fetches : Fetches left left' count fresh mid new) where
  -- a read that brought something
  pub GoesOn-fetched : GoesOn old (took ++ fresh) new
  GoesOn-fetched =
      subst (λ (reader : Held). GoesOn old (took ++ fresh) reader) (sym fetches.new_is)
      (GoesOn-filled old mid took fresh may.goes_on (omega (arith, fetches.count_is, fetches.within)))

  -- the bytes held before are still the first ones
  pub front_kept : (length mid.bytes ≤ length new.bytes) × (has_newline (take (length mid.bytes) new.bytes) ≡ false)
  front_kept =
      let bytes : new.bytes ≡ mid.bytes ++ fresh = ap (λ (reader : Held). reader.bytes) fetches.new_is in (
        omega (arith, ap length bytes, length-append mid.bytes fresh),
        ap (λ held. has_newline (take (length mid.bytes) held)) bytes
            ∙ ap has_newline (take-append_seam mid.bytes fresh)
            ∙ may.none,
      )

  -- what is held is the last line, where nothing came
  Goes-over : count ≡ 0 → Goes old (took ++ fresh) (shown_as (Ok (found_last new)) (after_last new).line) (after_last new)
  Goes-over none =
      let nothing : fresh ≡ [] = nil_from_length fresh (fetches.count_is ∙ none) in
      let bytes : new.bytes ≡ mid.bytes =
      ap (λ (reader : Held). reader.bytes) fetches.new_is ∙ ap (λ more. mid.bytes ++ more) nothing ∙ append-nil mid.bytes in
      let taken : new.taken ≡ mid.taken + length fresh = ap (λ (reader : Held). reader.taken) fetches.new_is in
      Goes-last old new (took ++ fresh) GoesOn-fetched (ap has_newline bytes ∙ may.none)
      (omega (arith, taken, fetches.count_is, none, may.unspent))

  -- a read at the end of the source
  pub Moves-over : (before : Option (List ℕ)) (found : Found) (last : Held) → Takes before left took → count ≡ 0
      → found ≡ found_last new → last ≡ after_last new → Moves before left' old (shown_as (Ok found) last.line) last
  Moves-over before found last takes none found_is last_is =
      rw (found_is, last_is) (record {
        took = took ++ fresh;
        takes = Takes-append before left left' took fresh takes fetches.takes;
        goes = Goes-over none;
        end = λ going ended. fetches.end none;
      })

-- the line up to the first newline
pub Moves-line : (left left' : Option (List ℕ)) (old mid new : Held) (took : List ℕ) (at : ℕ) (found : Found) → Takes left left' took
    → GoesOn old took mid → at < length mid.bytes → IsFirstNewline mid.bytes at → found ≡ found_at mid at → new ≡ after_line mid at
    → Moves left left' old (shown_as (Ok found) new.line) new
Moves-line left left' old mid new took at found takes goes inside first found_is new_is =
    rw (found_is, new_is) (record {
      took = took;
      takes = takes;
      goes = Goes-line old mid took at goes inside first;
      end = λ going ended. absurd (true≢false (sym ended ∙ goes.going));
    })

-- all bytes that the reader may take were taken
pub Moves-spent : (left left' : Option (List ℕ)) (old new : Held) (took : List ℕ) → Takes left left' took → GoesOn old took new
    → has_newline new.bytes ≡ false → new.taken ≡ BYTE_LIMIT → Moves left left' old (Err Spent) new
Moves-spent left left' old new took takes goes in_line spent = record {
  took = took;
  takes = takes;
  goes = Goes-spent old new took goes in_line spent;
  end = λ going ended. absurd (true≢false (sym ended ∙ goes.going));
}

-- a read that failed
pub Moves-read : (left left' : Option (List ℕ)) (old mid new : Held) (took : List ℕ) → Takes left left' took → MayFetch old took mid
    → new ≡ record mid { line = [] } → Moves left left' old (Err Read) new
Moves-read left left' old mid new took takes may is =
    subst (λ (reader : Held). Moves left left' old (Err Read) reader) (sym is) (record {
      took = took;
      takes = takes;
      goes = Goes-failed old mid took may.goes_on may.none may.unspent;
      end = λ going ended. absurd (true≢false (sym ended ∙ may.goes_on.going));
    })

-- the source ended before
pub Moves-ended : (left : Option (List ℕ)) (reader : Held) → reader.ended ≡ true
    → IsSound reader.taken reader.passing reader.ended reader.bytes → Moves left left reader (Ok AtEnd) reader
Moves-ended left reader ended sound = record {
  took = [];
  takes = Takes-none left;
  goes = Goes-ended reader ended sound;
  end = λ going is. absurd (true≢false (sym ended ∙ going));
}

-- a read was needed where nothing that was held or taken before it has a newline
pub WasNeeded-read : (held took fresh : List ℕ) (old mid new : Option (List ℕ)) (last : ℕ) → Takes old mid took → Takes mid new fresh
    → last ≡ length fresh → has_newline (held ++ took) ≡ false → WasNeeded held old new last
WasNeeded-read held took fresh None mid new last takes more is none = tt
WasNeeded-read held took fresh (Some old) mid None last takes more is none = tt
WasNeeded-read held took fresh (Some old) None (Some new) last takes more is none = absurd takes
WasNeeded-read held took fresh (Some old) (Some mid) (Some new) last takes more is none =
    let before : length old - (length new + last) ≡ length took =
    omega (arith, is, ap length takes, ap length more, length-append took mid, length-append fresh new) in
    ap (λ n. has_newline (held ++ take n old)) before
    ∙ ap (λ all. has_newline (held ++ take (length took) all)) takes
    ∙ ap (λ front. has_newline (held ++ front)) (take-append_seam took mid)
    ∙ none

-- what was held and taken has no newline after a read, where what the reader holds then has none
pub none_after_read : (held took fresh pass new : List ℕ) → has_newline (held ++ took) ≡ false → new ≡ pass ++ fresh
    → has_newline new ≡ false → has_newline (held ++ (took ++ fresh)) ≡ false
none_after_read held took fresh pass new before is none =
    let in_fresh : has_newline fresh ≡ false =
    or-false-right (has_newline pass) (has_newline fresh) (sym (list_any-append is_newline pass fresh) ∙ sym (ap has_newline is) ∙ none) in
    ap has_newline (sym (append_assoc held took fresh)) ∙ none_joined (held ++ took) fresh before in_fresh
