-- What the laws below say that those of the world rest on.
use Rattle.std.proofs.Common.{◌≡◌, ◌<◌, ◌^◌, ℕ, List, Option, None, Some, Result, Ok, Err, refl, sym, ap, ◌∙◌, inl}
use Rattle.std.proofs.lemmas.Option.{same_Some}
use Rattle.farm_rows.specs.declared.farm_row.FarmRow.{FarmRow}
use Rattle.farm_rows.specs.declared.head_row.TheConstants.{ROW_FORMAT}
use Rattle.farm_rows.specs.Recovery.{Said, StoredKey, farm_said}
use Rattle.farm_rows.specs.Rows.{HasRowsIn, rows_in, rows_of}
use Rattle.farm_types.specs.Farm.{Farm}
use Rattle.farm_types.specs.Kept.{IsKeptFarm}
use Rattle.farm_lines.specs.FormedLines.{IsFormedReply}
use Rattle.farm_lines.specs.Reply.{reply_text}
use Rattle.farm_lines.specs.ReplyLines.{reply_of}
use Rattle.farm_lines.specs.Transcript.{Mark, answer_to}

-- kept farms of the same rows are one, and replies are within their forms and read back
pub record LowerLaws : Type 0 where
  pub rows : (f g : Farm) → IsKeptFarm f → IsKeptFarm g → rows_of f ≡ rows_of g → f ≡ g
  pub formed : (f : Farm) (line : List ℕ) (moment : ℕ) (mark : Mark) → IsKeptFarm f → moment < 2 ^ 64 → IsFormedReply (answer_to f line moment mark).reply
  pub back : (f : Farm) (line : List ℕ) (moment : ℕ) (mark : Mark) → IsKeptFarm f → moment < 2 ^ 64
      → reply_of (reply_text (answer_to f line moment mark).reply) ≡ Some (answer_to f line moment mark).reply

-- ---- from the laws

-- the farm that rows say
abbrev farm_read : Result Said StoredKey → Option Farm
farm_read (Ok s) = Some s.farm
farm_read (Err key) = None

abbrev RowsSay : Type 0
RowsSay = (format : ℕ) (f : Farm) → IsKeptFarm f → HasRowsIn format f → farm_said (rows_in format f) ≡ Ok (record { farm = f; format = format })

said_once : RowsSay → (f g : Farm) → IsKeptFarm f → IsKeptFarm g → rows_of f ≡ rows_of g → f ≡ g
said_once say f g kept_f kept_g same =
    same_Some f g
    (sym (ap farm_read (say ROW_FORMAT f kept_f (inl refl))) ∙ (ap (λ (rows : List FarmRow). farm_read (farm_said rows)) same ∙ ap farm_read (say ROW_FORMAT g kept_g (inl refl))))

pub laws_by : RowsSay
    → ((f : Farm) (line : List ℕ) (moment : ℕ) (mark : Mark) → IsKeptFarm f → moment < 2 ^ 64 → IsFormedReply (answer_to f line moment mark).reply)
    → ((f : Farm) (line : List ℕ) (moment : ℕ) (mark : Mark) → IsKeptFarm f → moment < 2 ^ 64
    → reply_of (reply_text (answer_to f line moment mark).reply) ≡ Some (answer_to f line moment mark).reply)
    → LowerLaws
laws_by say formed back = record { rows = said_once say; formed = formed; back = back }
