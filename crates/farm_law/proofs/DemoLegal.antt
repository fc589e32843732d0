-- The demonstration's entries are a legal run from the farm of no rows, and it ends in the demonstration's farm.
use Rattle.std.proofs.Common.{◌≡◌, ◌<◌, ◌^◌, ◌∙◌, ℕ, List, [], ◌∷◌, refl, sym, subst, ap, arith}
use Rattle.std.specs.Prelude.{codes}
use Rattle.std.specs.List.{IsDistinct}
use Rattle.std.specs.Ordering.{int_eq}
use Rattle.std.specs.Cmp.Derive.{both_true}
use Rattle.std.proofs.lemmas.List.Elements.{All-nil, All-push}
use Rattle.farm_types.specs.declared.entry.Act.{Act}
use Rattle.farm_types.specs.declared.entry.Entry.{Entry}
use Rattle.farm_types.specs.Demo.{demo_farm}
use Rattle.farm_types.specs.Farm.{Farm, empty_farm}
use Rattle.farm_types.specs.Formed.{IsFormedAct, IsFormedJob, IsFormedLayer, IsFormedOwn}
use Rattle.farm_types.specs.Run.{IsLegal, IsLegalStep, run_of}
use Rattle.farm_types.specs.SpecLimits.{LayerKeepsLimits}
use Rattle.farm_types.specs.Step.{closed, after, after_act, at_moment, followed, moment_of}
use Rattle.farm_types.proofs.Utf8.{ascii_utf8}
use Rattle.farm_types.proofs.Ranges.{demo_range, demo_text, range_distinct}
use Rattle.farm_law.specs.DemoRun.{demo_alloc, demo_boot, demo_entries, demo_layer_spec, demo_show, demo_spec, demo_sub, demo_submit}

-- ---- the forms of the entries

layer_formed : IsFormedLayer demo_layer_spec
layer_formed =
    record {
      name = refl;
      range = demo_text;
      numbers_are = sym demo_range;
      command = both_true (ascii_utf8 (codes "echo #IFRAME#") refl) refl;
      tags = refl;
      limit = refl;
      limits =
          record {
            some = omega arith;
            distinct = subst (IsDistinct int_eq) demo_range (range_distinct (codes "1-10"));
            command_within = (omega arith, omega arith);
            cores_within = (omega arith, omega arith);
            memory_within = (omega arith, omega arith);
            tags_within = (omega arith, omega arith);
          };
    }

job_formed : IsFormedJob demo_spec
job_formed =
    record {
      name = refl;
      show = refl;
      facility = refl;
      shot = refl;
      user = refl;
      limits =
          record {
            priority_within = (omega arith, omega arith);
            retries_within = omega arith;
            layers_within = (omega arith, omega arith);
            frames_within = (omega arith, omega arith);
            each_layer = All-push LayerKeepsLimits [] demo_layer_spec (All-nil LayerKeepsLimits) layer_formed.limits;
          };
      each_layer = All-push IsFormedLayer [] demo_layer_spec (All-nil IsFormedLayer) layer_formed;
      each_depend = All-nil (IsFormedOwn demo_spec.name);
    }

sub_formed : IsFormedAct (demo_sub 0).act
sub_formed = record { show = refl; limits = record { size_within = omega arith; burst_within = omega arith } }

boot_formed : IsFormedAct (demo_boot 0).act
boot_formed =
    record {
      host = refl;
      nonce_within = omega arith;
      tags = refl;
      limits = record { tags_within = omega arith; cores_within = (omega arith, omega arith); memory_within = (omega arith, omega arith) };
    }

-- ---- the farms on the way

-- each is the demonstration's farm without what comes later: it has its show, its allocation too, its subscription too, and its host too
abbrev shown : ℕ → Farm
shown moment = record (demo_farm moment) { allocs = []; subs = []; hosts = []; jobs = []; layers = []; slots = []; next_job = 1 }

abbrev allocated : ℕ → Farm
allocated moment = record (demo_farm moment) { subs = []; hosts = []; jobs = []; layers = []; slots = []; next_job = 1 }

abbrev subscribed : ℕ → Farm
subscribed moment = record (demo_farm moment) { hosts = []; jobs = []; layers = []; slots = []; next_job = 1 }

abbrev hosted : ℕ → Farm
hosted moment = record (demo_farm moment) { jobs = []; layers = []; slots = []; next_job = 1 }

-- an entry at a moment that the farm hasn't passed
after_now : (f g : Farm) (moment : ℕ) (act : Act) → moment_of f moment ≡ moment → closed act (followed act (after_act (at_moment f moment) moment act)) ≡ g → after f (record { moment = moment; act = act }) ≡ g
after_now f g moment act now is = ap (λ (n : ℕ). closed act (followed act (after_act (at_moment f n) n act))) now ∙ is

shown_is : (moment : ℕ) → after empty_farm (demo_show moment) ≡ shown moment
shown_is moment = after_now empty_farm (shown moment) moment (demo_show moment).act (omega arith) refl

allocated_is : (moment : ℕ) → after (shown moment) (demo_alloc moment) ≡ allocated moment
allocated_is moment = after_now (shown moment) (allocated moment) moment (demo_alloc moment).act (omega arith) refl

subscribed_is : (moment : ℕ) → after (allocated moment) (demo_sub moment) ≡ subscribed moment
subscribed_is moment = after_now (allocated moment) (subscribed moment) moment (demo_sub moment).act (omega arith) refl

hosted_is : (moment : ℕ) → after (subscribed moment) (demo_boot moment) ≡ hosted moment
hosted_is moment = after_now (subscribed moment) (hosted moment) moment (demo_boot moment).act (omega arith) refl

submitted_is : (moment : ℕ) → after (hosted moment) (demo_submit moment) ≡ demo_farm moment
submitted_is moment = after_now (hosted moment) (demo_farm moment) moment (demo_submit moment).act (omega arith) refl

-- ---- each entry is legal where it comes

show_legal : (moment : ℕ) → moment < 2 ^ 64 → IsLegalStep empty_farm (demo_show moment)
show_legal moment within = record { formed = record { moment_within = within; act_formed = refl }; accepted = refl; condition = tt }

alloc_legal : (moment : ℕ) → moment < 2 ^ 64 → IsLegalStep (shown moment) (demo_alloc moment)
alloc_legal moment within = record { formed = record { moment_within = within; act_formed = (refl, refl) }; accepted = refl; condition = tt }

sub_legal : (moment : ℕ) → moment < 2 ^ 64 → IsLegalStep (allocated moment) (demo_sub moment)
sub_legal moment within = record { formed = record { moment_within = within; act_formed = sub_formed }; accepted = refl; condition = tt }

boot_legal : (moment : ℕ) → moment < 2 ^ 64 → IsLegalStep (subscribed moment) (demo_boot moment)
boot_legal moment within = record { formed = record { moment_within = within; act_formed = boot_formed }; accepted = refl; condition = tt }

submit_legal : (moment : ℕ) → moment < 2 ^ 64 → IsLegalStep (hosted moment) (demo_submit moment)
submit_legal moment within = record { formed = record { moment_within = within; act_formed = job_formed }; accepted = refl; condition = tt }

-- ---- the run

-- an entry more in front
legal_then : (f g : Farm) (e : Entry) (es : List Entry) → after f e ≡ g → IsLegalStep f e → IsLegal g es → IsLegal f (e ∷ es)
legal_then f g e es is step rest = (step, subst (λ (h : Farm). IsLegal h es) (sym is) rest)

run_then : (f g h : Farm) (e : Entry) (es : List Entry) → after f e ≡ g → run_of g es ≡ h → run_of f (e ∷ es) ≡ h
run_then f g h e es is rest = ap (λ (x : Farm). run_of x es) is ∙ rest

pub demo_legal : (moment : ℕ) → moment < 2 ^ 64 → IsLegal empty_farm (demo_entries moment)
demo_legal moment within =
    legal_then empty_farm (shown moment) (demo_show moment) (demo_alloc moment ∷ demo_sub moment ∷ demo_boot moment ∷ demo_submit moment ∷ []) (shown_is moment) (show_legal moment within)
    (legal_then (shown moment) (allocated moment) (demo_alloc moment) (demo_sub moment ∷ demo_boot moment ∷ demo_submit moment ∷ []) (allocated_is moment) (alloc_legal moment within)
    (legal_then (allocated moment) (subscribed moment) (demo_sub moment) (demo_boot moment ∷ demo_submit moment ∷ []) (subscribed_is moment) (sub_legal moment within)
    (legal_then (subscribed moment) (hosted moment) (demo_boot moment) (demo_submit moment ∷ []) (hosted_is moment) (boot_legal moment within)
    (legal_then (hosted moment) (demo_farm moment) (demo_submit moment) [] (submitted_is moment) (submit_legal moment within) tt))))

pub demo_run : (moment : ℕ) → run_of empty_farm (demo_entries moment) ≡ demo_farm moment
demo_run moment =
    run_then empty_farm (shown moment) (demo_farm moment) (demo_show moment) (demo_alloc moment ∷ demo_sub moment ∷ demo_boot moment ∷ demo_submit moment ∷ []) (shown_is moment)
    (run_then (shown moment) (allocated moment) (demo_farm moment) (demo_alloc moment) (demo_sub moment ∷ demo_boot moment ∷ demo_submit moment ∷ []) (allocated_is moment)
    (run_then (allocated moment) (subscribed moment) (demo_farm moment) (demo_sub moment) (demo_boot moment ∷ demo_submit moment ∷ []) (subscribed_is moment)
    (run_then (subscribed moment) (hosted moment) (demo_farm moment) (demo_boot moment) (demo_submit moment ∷ []) (hosted_is moment) (submitted_is moment))))
