-- What is printed of a line comes with the status of an ok reply, or of a refusal.
use Rattle.std.proofs.Common.{◌≡◌, ℕ, Bool, true, false, List, inl, inr, refl, ◌⊎◌, Option, None, Some, option_map, if◌then◌else◌, ◌≢◌, sym, ap, ◌∙◌, subst, arith}
use Rattle.command_line.specs.Codes.{code_of}
use Rattle.command_line.specs.declared.status.Status.{Status}
use Rattle.command_line.specs.declared.status.Status.TheVariants as exit
use Rattle.farm_lines.specs.declared.reply.Reply.{Reply}
use Rattle.farm_lines.specs.declared.reply.Reply.TheVariants as reply
use Rattle.cue_tool.specs.Answers.{as_it_came, as_table, is_refusal, list_word, ok_shown, read_shown}
use Rattle.cue_tool.specs.Listings.{listing_of}
use Rattle.cue_tool.specs.Calls.{Prints}
use Rattle.cue_tool.specs.declared.shown.Shown.{Shown}

abbrev pub IsOfReply : Option Shown → Type 0
IsOfReply None = Unit {0}
IsOfReply (Some shown) = (shown.status ≡ exit.Done) ⊎ (shown.status ≡ exit.Refused)

tables : (text : Option (List ℕ)) → IsOfReply (option_map as_table text)
tables None = tt
tables (Some text) = inl refl

ok_status : (what : Option (List ℕ)) (line : List ℕ) (r : Reply) → IsOfReply (ok_shown what line r)
ok_status None line r = inl refl
ok_status (Some what) line (reply.List list) = tables (listing_of what list)
ok_status (Some what) line other = tt

refusal_or : (refuses : Bool) (line : List ℕ) (shown : Option Shown) → IsOfReply shown → IsOfReply (if refuses then Some (as_it_came exit.Refused line) else shown)
refusal_or true line shown is = inr refl
refusal_or false line shown is = is

pub shown_status : (words : List (List ℕ)) (line : List ℕ) (r : Option Reply) → IsOfReply (read_shown words line r)
shown_status words line None = tt
shown_status words line (Some r) = refusal_or (is_refusal r) line (ok_shown (list_word words) line r) (ok_status (list_word words) line r)

-- such a status tells of no failed read or write
pub not_write : (status : Status) → (status ≡ exit.Done) ⊎ (status ≡ exit.Refused) → status ≢ exit.WriteFailed
not_write status (inl done) failed = omega (arith, ap code_of (sym done ∙ failed))
not_write status (inr refused) failed = omega (arith, ap code_of (sym refused ∙ failed))

pub not_read : (status : Status) (printed : List ℕ) (shown : Shown) → (shown.status ≡ exit.Done) ⊎ (shown.status ≡ exit.Refused) → Prints status printed shown
    → status ≢ exit.ReadFailed
not_read status printed shown (inl done) (inl prints) failed = omega (arith, ap code_of (sym (prints.0 ∙ done) ∙ failed))
not_read status printed shown (inr refused) (inl prints) failed = omega (arith, ap code_of (sym (prints.0 ∙ refused) ∙ failed))
not_read status printed shown of (inr part) failed = omega (arith, ap code_of (sym part.0 ∙ failed))

pub of_reply : (words : List (List ℕ)) (line : List ℕ) (r : Option Reply) (shown : Shown) → Some shown ≡ read_shown words line r
    → (shown.status ≡ exit.Done) ⊎ (shown.status ≡ exit.Refused)
of_reply words line r shown is = subst (λ (o : Option Shown). IsOfReply o) (sym is) (shown_status words line r)
