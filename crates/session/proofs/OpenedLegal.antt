-- The entries of an opening are a legal run.
use Rattle.std.proofs.Common.{◌≡◌, ◌<◌, ◌^◌, ℕ, refl, sym, ap, subst, List, [], ◌∷◌, arith}
use Rattle.std.specs.Prelude.{codes}
use Rattle.std.specs.List.{All}
use Rattle.std.proofs.lemmas.List.Elements.{All-from_recursion}
use Rattle.farm_types.specs.declared.entry.Act.TheVariants as act
use Rattle.farm_types.specs.declared.entry.Entry.{Entry}
use Rattle.farm_types.specs.Farm.{Farm, empty_farm}
use Rattle.farm_types.specs.Run.{IsLegal, IsLegalStep}
use Rattle.farm_types.specs.Step.{after, after_act, at_moment}
use Rattle.farm_gen.specs.Load.{IsLoad, load_alloc, load_boot, load_entries, load_sub, load_submit}
use Rattle.farm_law.specs.DemoRun.{demo_alloc, demo_boot, demo_entries, demo_sub, demo_submit}
use Rattle.session.specs.Opening.{IsUnbooked}
use Rattle.session.specs.Words.{WordForm, Demo, IsScript, IsStated, IsWithin, Load, Script, opened_entry, opening_entries}

-- any farm may be opened
pub opened_legal : (f : Farm) (moment : ℕ) → moment < 2 ^ 64 → IsLegalStep f (opened_entry moment)
opened_legal f moment within = record { formed = record { moment_within = within; act_formed = tt }; accepted = refl; condition = tt }

-- a show that is put into the farm of no rows makes the same farm whether or not the scheduler was opened at its moment
shown_same : (name : List ℕ) (moment : ℕ) → after (after empty_farm (opened_entry moment)) (record { moment = moment; act = act.Show name })
    ≡ after empty_farm (record { moment = moment; act = act.Show name })
shown_same name moment = ap (λ (n : ℕ). after_act (at_moment empty_farm n) n (act.Show name)) (omega arith)

-- so a legal run of entries of which the first is of a show is one after the opening
shown_opened : (name : List ℕ) (moment : ℕ) (later : List Entry) → moment < 2 ^ 64 → IsLegal empty_farm (record { moment = moment; act = act.Show name } ∷ later)
    → IsLegal empty_farm (opened_entry moment ∷ record { moment = moment; act = act.Show name } ∷ later)
shown_opened name moment later within run = (
  opened_legal empty_farm moment within,
  (record { formed = run.0.formed; accepted = run.0.accepted; condition = tt }, subst (λ (f : Farm). IsLegal f later) (sym (shown_same name moment)) run.1),
)

stated_opened : (form : WordForm) → IsStated form → IsWithin form → ((moment : ℕ) → moment < 2 ^ 64 → IsLegal empty_farm (demo_entries moment))
    → ((n : ℕ) → IsLoad n → IsLegal empty_farm (load_entries n)) → (moment : ℕ) → moment < 2 ^ 64 → IsLegal empty_farm (opening_entries form moment)
stated_opened Demo stated within demo load moment low =
    shown_opened (codes "demo") moment (demo_alloc moment ∷ demo_sub moment ∷ demo_boot moment ∷ demo_submit moment ∷ []) low (demo moment low)
stated_opened (Load n) stated within demo load moment low =
    shown_opened (codes "load") 0
    (load_alloc ∷ load_sub ∷ load_boot (codes "h1") 1 ∷ load_boot (codes "h2") 2 ∷ load_boot (codes "h3") 3 ∷ load_boot (codes "h4") 4 ∷ load_submit n ∷ []) (omega arith) (load n within)
stated_opened (Script store) stated within demo load moment low = absurd stated

-- the entries of a farm that is stated are a legal run from the farm of no rows
pub made_opened : (form : WordForm) → IsStated form → IsWithin form → ((moment : ℕ) → moment < 2 ^ 64 → IsLegal empty_farm (demo_entries moment))
    → ((n : ℕ) → IsLoad n → IsLegal empty_farm (load_entries n)) → (f : Farm) → f ≡ empty_farm → (moment : ℕ) → moment < 2 ^ 64 → IsLegal f (opening_entries form moment)
made_opened form stated within demo load f is moment low =
    subst (λ (g : Farm). IsLegal g (opening_entries form moment)) (sym is) (stated_opened form stated within demo load moment low)

-- a store's words are within every limit
pub script_within : (form : WordForm) → IsScript form → IsWithin form
script_within Demo script = tt
script_within (Script store) script = tt
script_within (Load n) script = absurd script

-- that of a farm that a store's rows say is its opening alone
pub script_opened : (form : WordForm) (f : Farm) (moment : ℕ) → IsScript form → moment < 2 ^ 64 → IsLegal f (opening_entries form moment)
script_opened Demo f moment script within = absurd script
script_opened (Script store) f moment script within = (opened_legal f moment within, tt)
script_opened (Load n) f moment script within = absurd script

-- ---- no entry of an opening is a booking

pub demo_unbooked : (moment : ℕ) → All IsUnbooked (demo_entries moment)
demo_unbooked moment = All-from_recursion IsUnbooked (demo_entries moment) (λ b. b, (λ b. b, (λ b. b, (λ b. b, (λ b. b, tt)))))

pub load_unbooked : (n : ℕ) → All IsUnbooked (load_entries n)
load_unbooked n = All-from_recursion IsUnbooked (load_entries n) (λ b. b, (λ b. b, (λ b. b, (λ b. b, (λ b. b, (λ b. b, (λ b. b, (λ b. b, tt))))))))
