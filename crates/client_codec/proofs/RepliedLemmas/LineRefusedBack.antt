-- Refusals of a line, and faults that are none of its own, are read back from their text.
use Rattle.std.proofs.Common.{◌≡◌, ℕ, List, [], Some, refl, arith, IsUtf8}
use Rattle.std.specs.Prelude.{codes}
use Rattle.json.proofs.Printed.Utf8.{IsUtf8-are_ascii}
use Rattle.frame_range.specs.declared.fault.RangeFault.{RangeFault}
use Rattle.frame_range.specs.declared.fault.RangeFault.TheVariants as range_fault
use Rattle.farm_types.specs.declared.limits.TheConstants.{MOST_CORES, MOST_MEMORY, MOST_RANGE}
use Rattle.farm_types.specs.Limits.{IsBetween}
use Rattle.farm_lines.specs.declared.reply.Reply.TheVariants as reply
use Rattle.farm_lines.specs.FormedLines.{IsFormedFault, IsFormedReply}
use Rattle.farm_lines.specs.Reply.{bad_amount, bad_line, bad_range, entries_full, fault_word, no_memory, reply_text, section_of, still_held, store_fault, too_long}
use Rattle.farm_lines.specs.ReplyLines.{bad_range_at, entries_full_at, full_reply, range_fault_of, reply_of, still_held_at}
use Rattle.client_codec.proofs.FieldsBack.{fields_in, name_back, whole_back, word_back}
use Rattle.client_codec.proofs.ReadBack.{back}
use Rattle.client_codec.proofs.AskedLemmas.TextsFit.{name_fits, text_fits}

pub bad_line_back : (field : List ℕ) → IsFormedReply (reply.BadLine field) → reply_of (reply_text (reply.BadLine field)) ≡ Some (reply.BadLine field)
unfolding bad_line
bad_line_back field h =
    back (fields_in (bad_line field)) (reply.BadLine field) (refl, omega arith, (refl, text_fits field h, (refl, tt, (refl, IsUtf8-are_ascii (codes "bad_line") refl, tt)))) refl

pub bad_amount_back : (field : List ℕ) → IsFormedReply (reply.BadAmount field) → reply_of (reply_text (reply.BadAmount field)) ≡ Some (reply.BadAmount field)
unfolding bad_amount
bad_amount_back field h =
    back (fields_in (bad_amount field)) (reply.BadAmount field) (refl, omega arith, (refl, text_fits field h, (refl, tt, (refl, IsUtf8-are_ascii (codes "bad_amount") refl, tt)))) refl

pub too_long_back : reply_of (reply_text reply.TooLong) ≡ Some reply.TooLong
unfolding too_long
too_long_back = back (fields_in too_long) reply.TooLong (refl, omega arith, (refl, tt, (refl, IsUtf8-are_ascii (codes "too_long") refl, tt))) refl

pub store_back : reply_of (reply_text reply.Store) ≡ Some reply.Store
unfolding store_fault
store_back = back (fields_in store_fault) reply.Store (refl, omega arith, (refl, tt, (refl, IsUtf8-are_ascii (codes "store") refl, tt))) refl

pub no_memory_back : reply_of (reply_text reply.NoMemory) ≡ Some reply.NoMemory
unfolding no_memory
no_memory_back = back (fields_in no_memory) reply.NoMemory (refl, omega arith, (refl, tt, (refl, IsUtf8-are_ascii (codes "memory") refl, tt))) refl

pub entries_full_back : reply_of (reply_text reply.EntriesFull) ≡ Some reply.EntriesFull
unfolding entries_full full_reply entries_full_at
entries_full_back =
    back (fields_in entries_full) reply.EntriesFull
    (refl, omega arith, (refl, omega arith, (refl, tt, (refl, IsUtf8-are_ascii (codes "entries") refl, (refl, IsUtf8-are_ascii (codes "full") refl, tt))))) refl

pub still_held_back : (cores memory : ℕ) → IsFormedReply (reply.StillHeld cores memory) → reply_of (reply_text (reply.StillHeld cores memory)) ≡ Some (reply.StillHeld cores memory)
unfolding still_held still_held_at
still_held_back cores memory h =
    let ms = fields_in (still_held cores memory) in
    back ms (reply.StillHeld cores memory)
    (refl, omega arith, (refl, omega (arith, h.0), (refl, omega (arith, h.1), (refl, tt, (refl, IsUtf8-are_ascii (codes "still_held") refl, tt)))))
    (rw (whole_back (codes "cores") ms 0 MOST_CORES cores refl (omega arith, h.0), whole_back (codes "memory") ms 0 MOST_MEMORY memory refl (omega arith, h.1)) refl)

-- ---- faults of ranges

section_within : (fault : RangeFault) → IsFormedFault fault → IsBetween 1 MOST_RANGE (section_of fault)
section_within (range_fault.Syntax section) h = h
section_within (range_fault.OutOfRange section) h = h
section_within (range_fault.ZeroStep section) h = h
section_within (range_fault.WrongWay section) h = h
section_within (range_fault.Empty section) h = h
section_within (range_fault.TooMany section) h = h
section_within range_fault.NoMemory h = absurd h

fault_back : (fault : RangeFault) → IsFormedFault fault → range_fault_of (section_of fault) (fault_word fault) ≡ Some fault
fault_back (range_fault.Syntax section) h = refl
fault_back (range_fault.OutOfRange section) h = refl
fault_back (range_fault.ZeroStep section) h = refl
fault_back (range_fault.WrongWay section) h = refl
fault_back (range_fault.Empty section) h = refl
fault_back (range_fault.TooMany section) h = refl
fault_back range_fault.NoMemory h = absurd h

fault_utf8 : (fault : RangeFault) → IsUtf8 (fault_word fault)
fault_utf8 (range_fault.Syntax section) = IsUtf8-are_ascii (codes "syntax") refl
fault_utf8 (range_fault.OutOfRange section) = IsUtf8-are_ascii (codes "out_of_range") refl
fault_utf8 (range_fault.ZeroStep section) = IsUtf8-are_ascii (codes "zero_step") refl
fault_utf8 (range_fault.WrongWay section) = IsUtf8-are_ascii (codes "wrong_way") refl
fault_utf8 (range_fault.Empty section) = IsUtf8-are_ascii (codes "empty") refl
fault_utf8 (range_fault.TooMany section) = IsUtf8-are_ascii (codes "too_many") refl
fault_utf8 range_fault.NoMemory = IsUtf8-are_ascii [] refl

pub bad_range_back : (layer : List ℕ) (fault : RangeFault) → IsFormedReply (reply.BadRange layer fault) → reply_of (reply_text (reply.BadRange layer fault)) ≡ Some (reply.BadRange layer fault)
unfolding bad_range bad_range_at
bad_range_back layer fault h =
    let ms = fields_in (bad_range layer fault) in
    let within = section_within fault h.1 in
    back ms (reply.BadRange layer fault) (
      refl,
      omega arith,
      (refl, fault_utf8 fault, (refl, name_fits layer h.0, (refl, tt, (refl, omega (arith, within.1), (refl, IsUtf8-are_ascii (codes "bad_range") refl, tt))))),
    ) (
    rw (
      name_back (codes "layer") ms layer refl h.0,
      whole_back (codes "section") ms 1 MOST_RANGE (section_of fault) refl within,
      word_back (codes "fault") ms (range_fault_of (section_of fault)) (fault_word fault) fault refl (fault_back fault h.1),
    ) refl
    )
