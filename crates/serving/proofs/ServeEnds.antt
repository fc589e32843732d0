-- How a call that serves ends, stage by stage.
use Rattle.std.proofs.Common.{◌≡◌, ◌⊎◌, ℕ, List, refl, sym, ◌∙◌, subst, inl, inr}
use Rattle.command_line.specs.declared.status.Status.{Status}
use Rattle.command_line.specs.declared.status.Status.TheVariants as exit
use Rattle.farm_keeper.specs.Rows.{Rows}
use Rattle.farm_types.specs.declared.entry.Entry.{Entry}
use Rattle.farm_types.specs.Farm.{Farm}
use Rattle.farm_types.specs.Kept.{IsKeptFarm}
use Rattle.farm_law.proofs.KeptChanges.{kept_hosts}
use Rattle.farm_types.specs.Run.{HasItsHosts, IsLegal, IsSafe, IsSound}
use Rattle.booking_rule.specs.declared.opening.Opening.{Opening}
use Rattle.booking_rule.specs.declared.view.View.{View}
use Rattle.booking_rule.specs.Kept.{farm_in}
use Rattle.booking_rule.specs.Link.{farm_of}
use Rattle.fault_counts.specs.Counts.{HasRisen}
use Rattle.fault_counts.proofs.CountLaws.{HasRisen-incremented}
use Rattle.session.specs.declared.opening.OpenFault.{OpenFault}
use Rattle.session.specs.declared.opening.OpenFault.TheVariants as fault
use Rattle.session.specs.declared.opening.Opening.TheVariants as opening
use Rattle.session.specs.Opening.{HoldsFarm, Opens}
use Rattle.session.specs.Words.{Script, opened_farm}
use Rattle.shared_sessions.specs.booking_recorder.specs.Recording.{Recording}
use Rattle.serving.specs.Serving.{EndsBy, EndsServing, HasOpened, HoldsHistory, IsFaultless, IsGivenBack, IsUnopened, status_of}
use Rattle.serving.specs.Words.{ServeWords}

-- ---- by the status

-- what is known of each stage, put in other words
pub ends_as : (status : Status) (words : ServeWords) (unstarted unstarted' : Type 0) (unopened unopened' : OpenFault → Type 0) (opened opened' : Type 0)
    (a b : ℕ) → (unstarted → unstarted') → ((why : OpenFault) → unopened why → unopened' why) → (opened → opened')
    → EndsBy status words unstarted unopened opened a b → EndsBy status words unstarted' unopened' opened' a b
ends_as exit.Done words unstarted unstarted' unopened unopened' opened opened' a b f g h ends = (h ends.0, ends.1)
ends_as exit.NoConnection words unstarted unstarted' unopened unopened' opened opened' a b f g h ends = (h ends.0, ends.1)
ends_as exit.StoreFailed words unstarted unstarted' unopened unopened' opened opened' a b f g h ends = g fault.Store ends
ends_as exit.BadStore words unstarted unstarted' unopened unopened' opened opened' a b f g h ends = (ends.0, g (fault.Bad ends.0) ends.1)
ends_as exit.NoMemory words unstarted unstarted' unopened unopened' opened opened' a b f g h (inl ends) = inl (f ends)
ends_as exit.NoMemory words unstarted unstarted' unopened unopened' opened opened' a b f g h (inr (inl ends)) = inr (inl (g fault.NoMemory ends))
ends_as exit.NoMemory words unstarted unstarted' unopened unopened' opened opened' a b f g h (inr (inr ends)) = inr (inr (h ends.0, ends.1))
ends_as other words unstarted unstarted' unopened unopened' opened opened' a b f g h ends = absurd ends

-- no farm was opened
pub unopened_ends : (why : OpenFault) (status : Status) → status ≡ status_of why → (words : ServeWords) (unstarted : Type 0) (unopened : OpenFault → Type 0)
    (opened : Type 0) (a b : ℕ) → unopened why → EndsBy status words unstarted unopened opened a b
unopened_ends fault.Store status is words unstarted unopened opened a b ends =
    subst (λ (s : Status). EndsBy s words unstarted unopened opened a b) (sym is) ends
unopened_ends (fault.Bad why) status is words unstarted unopened opened a b ends =
    subst (λ (s : Status). EndsBy s words unstarted unopened opened a b) (sym is) (why, ends)
unopened_ends fault.NoMemory status is words unstarted unopened opened a b ends =
    subst (λ (s : Status). EndsBy s words unstarted unopened opened a b) (sym is) (inr (inl ends))

-- the workers served
pub serving_ends : (status : Status) (words : ServeWords) (unstarted : Type 0) (unopened : OpenFault → Type 0) (opened : Type 0) (a b : ℕ) → opened
    → EndsServing status words.connections a b → EndsBy status words unstarted unopened opened a b
serving_ends exit.Done words unstarted unopened opened a b is ends = (is, ends)
serving_ends exit.NoConnection words unstarted unopened opened a b is ends = (is, ends)
serving_ends exit.NoMemory words unstarted unopened opened a b is ends = inr (inr (is, ends))
serving_ends other words unstarted unopened opened a b is ends = absurd ends

-- ---- over a farm that was opened

-- what a recorder's keeper holds, whose journal begins with this farm
pub served_from : (tells : Type 0) (holds left : Rows → Type 0) (opening : Opening) (v : View) (f : Farm) → v.opening ≡ opening → IsKeptFarm (farm_of v.opening)
    → IsLegal (farm_of v.opening) v.journal → f ≡ farm_in v → ((g : Farm) (es : List Entry) → IsSound g → HasItsHosts g → IsLegal g es → IsSafe g es)
    → HoldsFarm tells holds left f → HoldsHistory tells holds left (farm_of opening)
served_from tells holds left opening v f begins kept legal leads law held =
    subst (λ (o : Opening). HoldsHistory tells holds left (farm_of o)) begins (record {
      journal = v.journal;
      legal = legal;
      safe = law (farm_of v.opening) v.journal kept.rows.sound (kept_hosts (farm_of v.opening) kept.rows) legal;
      held = subst (HoldsFarm tells holds left) leads held;
    })

module _ {K : Type 0} (tells : K → Type 0) (holds left : K → Rows → Type 0) (faults : K → ℕ) (store : List ℕ) (moment : ℕ) (given : K) (r : Recording K)
    (back : K) (still : Type 0) (opens : Opens {N = Unit {0}} tells holds left faults (Script store) moment given (opening.Opened r))
    (recorded : HoldsFarm (tells r.keeper) (holds r.keeper) (left r.keeper) r.farm) where
  held : HoldsFarm (tells r.keeper) (holds r.keeper) (left r.keeper) (opened_farm (Script store) opens.0.first moment)
  held = subst (HoldsFarm (tells r.keeper) (holds r.keeper) (left r.keeper)) opens.0.farm_is recorded

  -- the workers served over it
  pub opened_served : (o : Opening) → r.view.opening ≡ o → HoldsHistory (tells back) (holds back) (left back) (farm_of o)
      → HasOpened tells holds left faults store given back (λ m. m ≡ moment)
  opened_served o begins served = record {
    moment = moment;
    opened = r.keeper;
    first = opens.0.first;
    read = refl;
    said = opens.0.said;
    legal = opens.0.legal;
    begins = opens.1;
    recorded = held;
    served = subst (λ (first : Opening). HoldsHistory (tells back) (holds back) (left back) (farm_of first)) (sym begins ∙ opens.0.begun.opening) served;
  }

  -- or memory ran out as they were made
  pub opened_back : (why : OpenFault) → IsGivenBack r.keeper back still why → IsUnopened tells holds left faults store given back (λ m. m ≡ moment) still why
  opened_back why is =
      subst (λ (w : OpenFault). IsUnopened tells holds left faults store given back (λ m. m ≡ moment) still w) (sym is.why_is) (record {
        moment = moment;
        read = refl;
        listener_still = is.listener_still;
        opens = subst (λ (k : K). Opens {N = Unit {0}} tells holds left faults (Script store) moment given (opening.Failed k fault.NoMemory))
            (sym is.given_back) (inr (inr (record { first = opens.0.first; done = 1; said = opens.0.said; legal = opens.0.legal; held = held })), opens.1);
      })

-- the moment is the clock's one reading
module _ {K : Type 0} (tells : K → Type 0) (holds left : K → Rows → Type 0) (faults : K → ℕ) (store : List ℕ) (given back : K) (moment : ℕ)
    (reads : ℕ → Type 0) (read : reads moment) where
  pub unopened_read : (still : Type 0) (why : OpenFault) → IsUnopened tells holds left faults store given back (λ m. m ≡ moment) still why
      → IsUnopened tells holds left faults store given back reads still why
  unopened_read still why is = record {
    moment = is.moment;
    read = subst reads (sym is.read) read;
    listener_still = is.listener_still;
    opens = is.opens;
  }

  pub opened_read : HasOpened tells holds left faults store given back (λ m. m ≡ moment) → HasOpened tells holds left faults store given back reads
  opened_read is = record {
    moment = is.moment;
    opened = is.opened;
    first = is.first;
    read = subst reads (sym is.read) read;
    said = is.said;
    legal = is.legal;
    begins = is.begins;
    recorded = is.recorded;
    served = is.served;
  }

-- ---- the whole call

module _ {K : Type 0} (tells : K → Type 0) (holds left : K → Rows → Type 0) (faults : K → ℕ) (words : ServeWords) (given back : K)
    (reads : ℕ → Type 0) (still unstarted : Type 0) (a b : ℕ) where
  -- how the call ended
  abbrev Ends : Status → Type 0
  Ends status =
      EndsBy status words unstarted (IsUnopened tells holds left faults words.store given back reads still)
      (HasOpened tells holds left faults words.store given back reads) a b

  -- the store failed only where the keeper's count rose
  pub store_risen : (status : Status) → Ends status → status ≡ exit.StoreFailed → HasRisen (faults given) (faults back)
  store_risen status ends is =
      let unopened = subst Ends is ends in
      HasRisen-incremented (faults given) (faults back) unopened.opens.1.counted

  -- where nothing failed, it is done, or memory ran out
  pub ends_whole : (status : Status) (heard heard_now : ℕ) → Ends status → (status ≡ exit.NoConnection → HasRisen heard heard_now)
      → IsFaultless tells holds faults given back heard heard_now → (status ≡ exit.Done) ⊎ (status ≡ exit.NoMemory)
  ends_whole exit.Done heard heard_now ends listen faultless = inl refl
  ends_whole exit.NoMemory heard heard_now ends listen faultless = inr refl
  ends_whole exit.NoConnection heard heard_now ends listen faultless = absurd (faultless.listened (listen refl))
  ends_whole exit.StoreFailed heard heard_now ends listen faultless = absurd (faultless.stored (store_risen exit.StoreFailed ends refl))
  ends_whole exit.BadStore heard heard_now ends listen faultless = absurd (faultless.said ends.0 ends.1.opens.0.0)
  ends_whole other heard heard_now ends listen faultless = absurd ends
