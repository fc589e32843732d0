use Rattle.std.proofs.Common.{rules, ◌≡◌, ◌&&◌, nat_eq, Option, None, Some, Bool, refl, sym, ap, subst, true≢false}
use Rattle.std.specs.Bool.{Decides}
use Rattle.std.specs.Option.{option_eq}
use Rattle.std.specs.Ordering.{int_eq}
use Rattle.std.proofs.lemmas.Bool.Decides.{Decides-and, Decides-eqb, Decides-int_eq, Decides-like}
use Rattle.std.proofs.lemmas.Option.{none-some, same_Some}
use denote.Enum.Bare.{sameb, same_true, true_same}
use Rattle.farm_types.specs.contracts.states.FrameState.{the_type}
use Rattle.farm_types.specs.declared.attempt.ProcRow.{ProcRow}
use Rattle.farm_types.specs.declared.slot_row.Frame.{Frame}
use Rattle.farm_types.specs.declared.slot_row.SlotRow.{SlotRow}
use Rattle.farm_draft.proofs.slot_change.SlotChange.changes_nothing.Goals as goal

-- what `==` computes of two rows tells whether they are one
option_decides : {X : Type 0} (test : X → X → Bool) → ((x y : X) → Decides (test x y) (x ≡ y)) → (o p : Option X) → Decides (option_eq test o p) (o ≡ p)
option_decides test each None None = (λ e. refl, λ e. refl)
option_decides test each None (Some y) = (λ e. absurd (true≢false (sym e)), λ e. absurd (none-some y e))
option_decides test each (Some x) None = (λ e. absurd (true≢false (sym e)), λ e. absurd (none-some x (sym e)))
option_decides test each (Some x) (Some y) = (λ e. ap Some ((each x y).0 e), λ e. (each x y).1 (same_Some x y e))

abbrev frames_eq : Frame → Frame → Bool
frames_eq x y = nat_eq x.job y.job && (nat_eq x.layer y.layer && (nat_eq x.position y.position && (int_eq x.number y.number && (nat_eq x.retries y.retries && sameb the_type x.state y.state))))

frames_decide : (x y : Frame) → Decides (frames_eq x y) (x ≡ y)
frames_decide x y =
    Decides-like (frames_eq x y)
    (λ e.
    let a = e.1 in
    let b = a.1 in
    let c = b.1 in
    let d = c.1 in
    λ i. record { job = e.0 i; layer = a.0 i; position = b.0 i; number = c.0 i; retries = d.0 i; state = d.1 i })
    (λ e. (
      ap (λ (f : Frame). f.job) e,
      (ap (λ (f : Frame). f.layer) e, (ap (λ (f : Frame). f.position) e, (ap (λ (f : Frame). f.number) e, (ap (λ (f : Frame). f.retries) e, ap (λ (f : Frame). f.state) e)))),
    ))
    (Decides-and _ _ (Decides-eqb x.job y.job) (Decides-and _ _ (Decides-eqb x.layer y.layer) (Decides-and _ _ (Decides-eqb x.position y.position) (Decides-and _ _ (Decides-int_eq x.number y.number)
    (Decides-and _ _ (Decides-eqb x.retries y.retries) (same_true the_type tt x.state y.state, true_same the_type x.state y.state))))))

abbrev procs_eq : ProcRow → ProcRow → Bool
procs_eq x y = nat_eq x.slot y.slot && (nat_eq x.version y.version && (nat_eq x.host y.host && (nat_eq x.boot y.boot && (nat_eq x.cores y.cores && (nat_eq x.memory y.memory && (nat_eq x.sub y.sub && nat_eq x.since y.since))))))

procs_decide : (x y : ProcRow) → Decides (procs_eq x y) (x ≡ y)
procs_decide x y = (λ e. search rules, λ e. search rules)

rows_decide : (x y : SlotRow) → Decides (nat_eq x.version y.version && (option_eq frames_eq x.frame y.frame && option_eq procs_eq x.proc y.proc)) (x ≡ y)
rows_decide x y =
    Decides-like (nat_eq x.version y.version && (option_eq frames_eq x.frame y.frame && option_eq procs_eq x.proc y.proc))
    (λ e. λ i. record { version = e.0 i; frame = e.1.0 i; proc = e.1.1 i })
    (λ e. (ap (λ (s : SlotRow). s.version) e, (ap (λ (s : SlotRow). s.frame) e, ap (λ (s : SlotRow). s.proc) e)))
    (Decides-and _ _ (Decides-eqb x.version y.version) (Decides-and _ _ (option_decides frames_eq frames_decide x.frame y.frame) (option_decides procs_eq procs_decide x.proc y.proc)))

pub returns : goal.returns
returns c =
    let change = c.args.self.now in
    subst (λ (b : Bool). Decides b (change.was ≡ change.row)) (sym c.eq.ensures) (rows_decide change.was change.row)
