-- Refusals are read back from their text.
use Rattle.std.proofs.Common.{◌≡◌, ◌<◌, ◌^◌, ℕ, List, Some, Ok, refl, sym, subst, arith}
use Rattle.std.specs.Prelude.{codes}
use Rattle.json.proofs.Printed.Utf8.{IsUtf8-are_ascii}
use Rattle.farm_types.specs.declared.limits.TheConstants.{LAST_BOOT, SLOT_LIMIT}
use Rattle.farm_types.specs.declared.refusal.Refusal.{Refusal}
use Rattle.farm_types.specs.declared.refusal.Refusal.TheVariants.{Unknown, Finished, Exists, WrongBoot, Stale, FarmFull, Satisfied, WrongState, VersionSpent, SelfDepend, Started, Full}
use Rattle.farm_types.specs.declared.refusal.Counted.{Counted}
use Rattle.farm_types.specs.declared.refusal.Counted.TheVariants as counted
use Rattle.farm_types.specs.declared.states.FrameState.{FrameState}
use Rattle.farm_types.specs.declared.states.FrameState.TheVariants as frame_state
use Rattle.farm_lines.specs.declared.reply.Reply.TheVariants as reply
use Rattle.farm_lines.specs.FormedLines.{IsFormedRefusal}
use Rattle.farm_lines.specs.Reply.{refusal_data, reply_text}
use Rattle.farm_lines.specs.ReplyLines.{full_at, full_reply, limit_of, reply_at, reply_of}
use Rattle.client_codec.proofs.FieldsBack.{fields_in, name_back, whole_back}
use Rattle.client_codec.proofs.ReadBack.{back}
use Rattle.client_codec.proofs.AskedLemmas.TextsFit.{name_fits, text_fits}
use Rattle.state_names.proofs.WordsBack.{counted_utf8, state_utf8}

unknown_back : (name : List ℕ) → IsFormedRefusal (Unknown name) → reply_of (reply_text (reply.Refused (Unknown name))) ≡ Some (reply.Refused (Unknown name))
unfolding refusal_data
unknown_back name h =
    let ms = fields_in (refusal_data (Unknown name)) in
    back ms (reply.Refused (Unknown name)) (refl, omega arith, (refl, text_fits name h, (refl, tt, (refl, IsUtf8-are_ascii (codes "unknown") refl, tt)))) refl

exists_back : (name : List ℕ) → IsFormedRefusal (Exists name) → reply_of (reply_text (reply.Refused (Exists name))) ≡ Some (reply.Refused (Exists name))
unfolding refusal_data
exists_back name h =
    let ms = fields_in (refusal_data (Exists name)) in
    back ms (reply.Refused (Exists name)) (refl, omega arith, (refl, name_fits name h, (refl, tt, (refl, IsUtf8-are_ascii (codes "exists") refl, tt)))) (rw (name_back (codes "name") ms name refl h) refl)

finished_back : (name : List ℕ) → IsFormedRefusal (Finished name) → reply_of (reply_text (reply.Refused (Finished name))) ≡ Some (reply.Refused (Finished name))
unfolding refusal_data
finished_back name h =
    let ms = fields_in (refusal_data (Finished name)) in
    back ms (reply.Refused (Finished name)) (refl, omega arith, (refl, name_fits name h, (refl, tt, (refl, IsUtf8-are_ascii (codes "finished") refl, tt)))) (rw (name_back (codes "name") ms name refl h) refl)

wrong_boot_back : (boot : ℕ) → IsFormedRefusal (WrongBoot boot) → reply_of (reply_text (reply.Refused (WrongBoot boot))) ≡ Some (reply.Refused (WrongBoot boot))
unfolding refusal_data
wrong_boot_back boot h =
    let ms = fields_in (refusal_data (WrongBoot boot)) in
    back ms (reply.Refused (WrongBoot boot)) (refl, omega (arith, h.1), (refl, omega arith, (refl, tt, (refl, IsUtf8-are_ascii (codes "wrong_boot") refl, tt)))) (rw (whole_back (codes "boot") ms 1 LAST_BOOT boot refl h) refl)

stale_back : (last : ℕ) → IsFormedRefusal (Stale last) → reply_of (reply_text (reply.Refused (Stale last))) ≡ Some (reply.Refused (Stale last))
unfolding refusal_data
stale_back last h =
    let ms = fields_in (refusal_data (Stale last)) in
    back ms (reply.Refused (Stale last)) (refl, omega arith, (refl, h.1, (refl, tt, (refl, IsUtf8-are_ascii (codes "stale") refl, tt)))) (rw (whole_back (codes "last") ms 1 18446744073709551615 last refl (h.0, omega (arith, h.1))) refl)

farm_full_back : (free : ℕ) → IsFormedRefusal (FarmFull free) → reply_of (reply_text (reply.Refused (FarmFull free))) ≡ Some (reply.Refused (FarmFull free))
unfolding refusal_data
farm_full_back free h =
    let ms = fields_in (refusal_data (FarmFull free)) in
    back ms (reply.Refused (FarmFull free)) (refl, omega arith, (refl, omega (arith, h), (refl, tt, (refl, IsUtf8-are_ascii (codes "farm_full") refl, tt)))) (rw (whole_back (codes "free") ms 0 SLOT_LIMIT free refl (omega arith, h)) refl)

version_spent_back : (frame : List ℕ) → IsFormedRefusal (VersionSpent frame) → reply_of (reply_text (reply.Refused (VersionSpent frame))) ≡ Some (reply.Refused (VersionSpent frame))
unfolding refusal_data
version_spent_back frame h =
    let ms = fields_in (refusal_data (VersionSpent frame)) in
    back ms (reply.Refused (VersionSpent frame)) (refl, omega arith, (refl, text_fits frame h, (refl, tt, (refl, IsUtf8-are_ascii (codes "version_spent") refl, tt)))) refl

self_depend_back : (frame : List ℕ) → IsFormedRefusal (SelfDepend frame) → reply_of (reply_text (reply.Refused (SelfDepend frame))) ≡ Some (reply.Refused (SelfDepend frame))
unfolding refusal_data
self_depend_back frame h =
    let ms = fields_in (refusal_data (SelfDepend frame)) in
    back ms (reply.Refused (SelfDepend frame)) (refl, omega arith, (refl, text_fits frame h, (refl, tt, (refl, IsUtf8-are_ascii (codes "self_depend") refl, tt)))) refl

started_back : (frame : List ℕ) → IsFormedRefusal (Started frame) → reply_of (reply_text (reply.Refused (Started frame))) ≡ Some (reply.Refused (Started frame))
unfolding refusal_data
started_back frame h =
    let ms = fields_in (refusal_data (Started frame)) in
    back ms (reply.Refused (Started frame)) (refl, omega arith, (refl, text_fits frame h, (refl, tt, (refl, IsUtf8-are_ascii (codes "started") refl, tt)))) refl

satisfied_back : reply_of (reply_text (reply.Refused Satisfied)) ≡ Some (reply.Refused Satisfied)
unfolding refusal_data
satisfied_back =
    back (fields_in (refusal_data Satisfied)) (reply.Refused Satisfied) (refl, omega arith, (refl, tt, (refl, IsUtf8-are_ascii (codes "SATISFIED") refl, (refl, IsUtf8-are_ascii (codes "wrong_state") refl, tt)))) refl

state_read : (state : FrameState) → reply_at (fields_in (refusal_data (WrongState state))) ≡ Ok (reply.Refused (WrongState state))
unfolding refusal_data
state_read frame_state.Waiting = refl
state_read frame_state.Setup = refl
state_read frame_state.Running = refl
state_read frame_state.Succeeded = refl
state_read frame_state.Depend = refl
state_read frame_state.Dead = refl
state_read frame_state.Eaten = refl

wrong_state_back : (state : FrameState) → reply_of (reply_text (reply.Refused (WrongState state))) ≡ Some (reply.Refused (WrongState state))
unfolding refusal_data
wrong_state_back state =
    back (fields_in (refusal_data (WrongState state))) (reply.Refused (WrongState state)) (refl, omega arith, (refl, tt, (refl, state_utf8 state, (refl, IsUtf8-are_ascii (codes "wrong_state") refl, tt)))) (state_read state)

limit_fits : (what : Counted) → limit_of what < 2 ^ 64
limit_fits counted.Shows = omega arith
limit_fits counted.Allocs = omega arith
limit_fits counted.Limits = omega arith
limit_fits counted.Hosts = omega arith
limit_fits counted.Boots = omega arith
limit_fits counted.Jobs = omega arith
limit_fits counted.Depends = omega arith
limit_fits counted.Groups = omega arith
limit_fits counted.DependNumbers = omega arith

full_read : (what : Counted) → reply_at (fields_in (refusal_data (Full (limit_of what) what))) ≡ Ok (reply.Refused (Full (limit_of what) what))
unfolding refusal_data full_reply full_at
full_read counted.Shows = refl
full_read counted.Allocs = refl
full_read counted.Limits = refl
full_read counted.Hosts = refl
full_read counted.Boots = refl
full_read counted.Jobs = refl
full_read counted.Depends = refl
full_read counted.Groups = refl
full_read counted.DependNumbers = refl

-- at its limit
full_there : (what : Counted) → reply_of (reply_text (reply.Refused (Full (limit_of what) what))) ≡ Some (reply.Refused (Full (limit_of what) what))
unfolding refusal_data
full_there what =
    back (fields_in (refusal_data (Full (limit_of what) what))) (reply.Refused (Full (limit_of what) what))
    (refl, omega arith, (refl, limit_fits what, (refl, tt, (refl, counted_utf8 what, (refl, IsUtf8-are_ascii (codes "full") refl, tt))))) (full_read what)

full_back : (limit : ℕ) (what : Counted) → limit ≡ limit_of what → reply_of (reply_text (reply.Refused (Full limit what))) ≡ Some (reply.Refused (Full limit what))
full_back limit what h = subst (λ (n : ℕ). reply_of (reply_text (reply.Refused (Full n what))) ≡ Some (reply.Refused (Full n what))) (sym h) (full_there what)

pub refused_back : (why : Refusal) → IsFormedRefusal why → reply_of (reply_text (reply.Refused why)) ≡ Some (reply.Refused why)
refused_back (Unknown name) h = unknown_back name h
refused_back (Finished name) h = finished_back name h
refused_back (Exists name) h = exists_back name h
refused_back (WrongBoot boot) h = wrong_boot_back boot h
refused_back (Stale last) h = stale_back last h
refused_back (FarmFull free) h = farm_full_back free h
refused_back Satisfied h = satisfied_back
refused_back (WrongState state) h = wrong_state_back state
refused_back (VersionSpent frame) h = version_spent_back frame h
refused_back (SelfDepend frame) h = self_depend_back frame h
refused_back (Started frame) h = started_back frame h
refused_back (Full limit what) h = full_back limit what h
