-- A world that keeps what every world keeps is as promised, a made world keeps it, and an event has one outcome.
use Rattle.std.proofs.Common.{◌≡◌, ℕ, List, [], ◌∷◌, map, Option, None, Some, refl, sym, ap, subst, ◌∙◌, arith, option_map}
use Rattle.std.specs.List.{AllByRecursion, slice_get}
use Rattle.std.proofs.lemmas.Bool.{eq-eqb}
use Rattle.std.proofs.lemmas.Option.{none-some, same_Some, slice_get-map}
use Rattle.farm_types.specs.Farm.{Farm}
use Rattle.farm_law.proofs.KeptChanges.{kept_hosts}
use Rattle.farm_law.proofs.SafeRuns.{legal_is_safe}
use Rattle.farm_lines.specs.declared.reply.Reply.{Reply}
use Rattle.farm_lines.specs.declared.request.Request.{Request}
use Rattle.rqd_core.specs.declared.config.RqdConfig.{RqdConfig}
use Rattle.rqd_core.proofs.Kept.{new_within}
use Rattle.world_law.specs.declared.event.Event.{Event}
use Rattle.world_law.specs.declared.lines.Sent.{Sent}
use Rattle.world_law.specs.Happens.{Happen, Happens, IsOfTypes}
use Rattle.world_law.specs.KeptWorld.{CanBegin, IsKeptHost, IsKeptWorld, IsToldTo}
use Rattle.world_law.specs.Promises.{IsReported, KeepsPromises}
use Rattle.world_law.specs.Texts.{IsConfigWithin}
use Rattle.world_law.specs.World.{Host, World, made_world, new_host, operators_line}
use Rattle.world_law.proofs.Each.{each_at}

-- ---- promises

pub kept_promises : (w : World) → IsKeptWorld w → KeepsPromises w
kept_promises w k =
    let it = k.scheduler in
    record {
      starts = λ host h at. (k.hosts host h at).differ;
      counts = each_at (IsReported w) w.now.counted it.counts.reported;
      cores = λ host h at. (k.hosts host h at).within.cores;
      run =
          record {
            legal = it.legal;
            safe = legal_is_safe w.opened w.entries it.opened.rows.sound (kept_hosts w.opened it.opened.rows) it.legal;
            leads = it.leads;
            once = it.counts.once;
          };
    }

-- ---- made worlds

module _ (f : Farm) (configs : List RqdConfig) (asked : List Request) (can : CanBegin f configs) where
  abbrev first : World
  first = made_world f configs asked

  none_told : (host : ℕ) (r : Reply) → IsToldTo first host r → ⊥
  none_told host r t = none-some t.told t.there.1

  operator_has : (s : Sent) → (n : ℕ) → slice_get (map operators_line asked) n ≡ Some s → s.host ≡ None
  operator_has s n at = by (slice_get asked n) (sym (slice_get-map operators_line asked n) ∙ at)
    where
      by : (o : Option Request) → option_map operators_line o ≡ Some s → s.host ≡ None
      by None is = absurd (none-some s is)
      by (Some q) is = ap (λ (x : Sent). x.host) (sym (same_Some (operators_line q) s is))

  config_kept : (host : ℕ) (c : RqdConfig) → IsConfigWithin c → IsKeptHost first host (new_host c)
  config_kept host c within =
      record {
        life = record { config = within; running = tt; finished = tt; boot = tt; seq = omega arith };
        within = new_within c.cores;
        nonce = rw (eq-eqb c.nonce c.nonce refl) refl;
        differ = tt;
        started = tt;
        came = tt;
        boot = λ boot is. absurd (none-some boot is);
        sent = λ s has of r reads. absurd (none-some host (sym (operator_has s has.0 has.1) ∙ of));
        formed = λ r told. absurd (none_told host r told);
        told = λ r told. absurd (none_told host r told);
        boots = λ boot a b told. absurd (none_told host _ told);
      }

  host_kept : (host : ℕ) (h : Host) → slice_get (map new_host configs) host ≡ Some h → IsKeptHost first host h
  host_kept host h at = by (slice_get configs host) refl (sym (slice_get-map new_host configs host) ∙ at)
    where
      by : (o : Option RqdConfig) → slice_get configs host ≡ o → option_map new_host o ≡ Some h → IsKeptHost first host h
      by None there is = absurd (none-some h is)
      by (Some c) there is =
          subst (IsKeptHost first host) (same_Some (new_host c) h is) (config_kept host c (each_at IsConfigWithin configs can.hosts host c there))

  pub made_kept : IsKeptWorld (made_world f configs asked)
  made_kept =
      record {
        scheduler =
            record {
              opened = can.farm;
              legal = tt;
              leads = refl;
              counts = record { reported = tt; spent = tt; once = tt };
              further = tt;
            };
        lines =
            record {
              senders = λ s has host is. absurd (none-some host (sym (operator_has s has.0 has.1) ∙ is));
              told = λ t has. absurd (none-some t has.1);
            };
        hosts = host_kept;
      }

-- ---- many events

pub all_kept : ((w : World) (e : Event) (new : World) → IsKeptWorld w → IsOfTypes e → Happens w e new → IsKeptWorld new)
    → (w : World) (es : List Event) (new : World) → IsKeptWorld w → AllByRecursion IsOfTypes es → Happen w es new → IsKeptWorld new
all_kept keeps w [] new k types happen = subst IsKeptWorld (sym happen) k
all_kept keeps w (e ∷ es) new k types happen = all_kept keeps happen.0 es new (keeps w e happen.0 k types.0 happen.1) types.1 happen.2
