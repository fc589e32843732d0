-- What stays while words are changed, over views.
use Rattle.std.proofs.Common.{◌≡◌, ◌≢◌, ℕ, Bool, true, List, [], ◌++◌, refl, sym, ap, ◌∙◌, subst, append_assoc}
use Rattle.std.specs.Prelude.{Option, Some, None}
use Rattle.std.proofs.lemmas.List.{append-nil}
use mathlib.Core.List.{IsPrefix}
use Rattle.farm_types.specs.declared.entry.Entry.{Entry}
use Rattle.farm_types.specs.Farm.{Farm}
use Rattle.farm_types.specs.Kept.{IsKeptFarm}
use Rattle.farm_types.specs.Run.{IsLegalStep}
use Rattle.farm_types.specs.Step.{after}
use Rattle.farm_rows.specs.declared.row_key.RowKey.{RowKey}
use Rattle.farm_rows.specs.declared.row_key.RowKey.TheVariants as key
use Rattle.booking_rule.specs.declared.desk.Desk.{Desk}
use Rattle.booking_rule.specs.declared.view.View.{View}
use Rattle.booking_rule.specs.Kept.{farm_in}
use Rattle.booking_rule.specs.Link.{farm_before, has, lent}
use Rattle.booking_rule.specs.Recorded.{Stand}
use Rattle.booking_rule.proofs.Lending.{lent_past}
use Rattle.recording_core.specs.Machine.{LendsAlike}
use Rattle.recording_core.specs.Records.{desk_in, records_in}
use Rattle.recording_turns.specs.Carrying.{Going, IsNoted, Turned, desk_done, was_in}
use Rattle.recording_turns.specs.Owing.{AreOn, Resizes}
use Rattle.recording_turns.specs.Resting.{WentOn, split_in}

-- ---- the trail

module _ {A : Type 0} where
  pub prefix_self : (xs : List A) → IsPrefix xs xs
  prefix_self xs = ([], append-nil xs)

  pub prefix_then : (xs ys zs : List A) → IsPrefix xs ys → IsPrefix ys zs → IsPrefix xs zs
  prefix_then xs ys zs p q = (p.0 ++ q.0, sym (append_assoc xs p.0 q.0) ∙ (ap (λ (l : List A). l ++ q.0) p.1 ∙ q.1))

-- ---- what may be another

pub went_self : (v : View) → WentOn v v
went_self v = record { like = refl; split = refl; trail = prefix_self v.trail }

pub went_then : (u v w : View) → WentOn u v → WentOn v w → WentOn u w
went_then u v w a b =
    record {
      like = b.like
          ∙ ap (λ (x : View). record x {
            desk = w.desk;
            takes = w.takes;
            limits = w.limits;
            rooms = w.rooms;
            claims = w.claims;
            ungranted = w.ungranted;
            ungranted_limit = w.ungranted_limit;
            trail = w.trail;
          }) a.like;
      split = b.split ∙ a.split;
      trail = prefix_then u.trail v.trail w.trail a.trail b.trail;
    }

pub went_noted : (v w : View) → IsNoted v w → WentOn v w
went_noted v w n = subst (λ (x : View). WentOn v x) (sym n.like) (record { like = refl; split = refl; trail = n.trail })

-- ---- the desk

before_kept : (k : RowKey) (d : Desk) → (desk_done k d).before ≡ d.before
before_kept (key.Frame slot) d = refl
before_kept (key.Host host) d = refl
before_kept (key.Sub sub) d = refl
before_kept (key.Limit limit) d = refl
before_kept other d = refl

pending_kept : (k : RowKey) (d : Desk) → (desk_done k d).pending ≡ d.pending
pending_kept (key.Frame slot) d = refl
pending_kept (key.Host host) d = refl
pending_kept (key.Sub sub) d = refl
pending_kept (key.Limit limit) d = refl
pending_kept other d = refl

split_kept : (k : RowKey) (d : Desk) → (desk_done k d).split ≡ d.split
split_kept (key.Frame slot) d = refl
split_kept (key.Host host) d = refl
split_kept (key.Sub sub) d = refl
split_kept (key.Limit limit) d = refl
split_kept other d = refl

-- ---- a row's words were changed

pub turned_made : (v w : View) (k : RowKey) → v.desk ≡ Some (desk_in v.desk)
    → w ≡ record v {
      desk = w.desk;
      takes = w.takes;
      limits = w.limits;
      rooms = w.rooms;
      claims = w.claims;
      ungranted = w.ungranted;
      ungranted_limit = w.ungranted_limit;
      trail = w.trail;
    }
    → w.desk ≡ Some (desk_done k (desk_in v.desk)) → IsPrefix v.trail w.trail → Turned v k w
turned_made v w k first like desk trail =
    let split : split_in w.desk ≡ split_in v.desk = ap split_in desk ∙ (split_kept k (desk_in v.desk) ∙ sym (ap split_in first)) in
    record { went = record { like = like; split = split; trail = trail }; desk = desk }

pub was_turned : (v w : View) (k : RowKey) → Turned v k w → was_in w ≡ was_in v
was_turned v w k t =
    let opening : w.opening ≡ v.opening = ap (λ (x : View). x.opening) t.went.like in
    let before : (desk_in w.desk).before ≡ (desk_in v.desk).before = ap (λ (o : Option Desk). (desk_in o).before) t.desk ∙ before_kept k (desk_in v.desk) in
    λ i. farm_before (opening i) (before i)

pub turned_noted : (u v w : View) (k : RowKey) → IsNoted u v → Turned v k w → Turned u k w
turned_noted u v w k n t =
    let desk : v.desk ≡ u.desk = ap (λ (x : View). x.desk) n.like in
    record {
      went = went_then u v w (went_noted u v n) t.went;
      desk = t.desk ∙ ap (λ (o : Option Desk). Some (desk_done k (desk_in o))) desk;
    }

-- what goes on
pub going_turned : (v w : View) (k : RowKey) (g : Farm) (resized : Option ℕ) → Going v g resized → Turned v k w → w.takes ≡ [] → w.limits ≡ []
    → AreOn resized w.rooms → ((host : ℕ) → resized ≡ Some host → has host (desk_done k (desk_in v.desk)).hosts ≡ true → w.rooms ≡ [])
    → w.claims ≡ v.claims → w.ungranted ≡ v.ungranted → w.ungranted_limit ≡ v.ungranted_limit → Going w g resized
going_turned v w k g resized G t takes limits rooms gone claims burst place =
    let d = desk_in v.desk in
    let here : desk_in w.desk ≡ desk_done k d = ap desk_in t.desk in
    let was = was_turned v w k t in
    record {
      first = t.desk ∙ ap (λ (x : Desk). Some x) (sym here);
      pending = ap (λ (x : Desk). x.pending) here ∙ (pending_kept k d ∙ G.pending);
      log = G.log;
      before = ap (λ (x : Desk). x.before) here ∙ (before_kept k d ∙ G.before);
      entry = G.entry;
      kept = subst IsKeptFarm (sym was) G.kept;
      legal = subst (λ (f : Farm). IsLegalStep f G.entry) (sym was) G.legal;
      unbooked = G.unbooked;
      leads = ap (λ (f : Farm). after f G.entry) was ∙ G.leads;
      farm = ap (λ (x : View). farm_in x) t.went.like ∙ G.farm;
      resizes = subst (λ (f : Farm). Resizes f g resized) (sym was) G.resizes;
      takes = takes;
      places = limits;
      rooms = rooms;
      gone = λ host is listed. gone host is (subst (λ (x : Desk). has host x.hosts ≡ true) here listed);
      claims = claims ∙ G.claims;
      burst = burst ∙ G.burst;
      place = place ∙ G.place;
    }

-- ---- nothing is lent once an entry was recorded

both_past : (b c : Option (List Entry)) (x p y q : Bool) (s t : Stand) → b ≢ None → c ≢ None → lent b x p s ≡ lent c y q t
both_past b c x p y q s t h k = lent_past b x p s h ∙ sym (lent_past c y q t k)

pub lends_alike : (v w : View) → (desk_in v.desk).before ≢ None → (desk_in w.desk).before ≢ None → LendsAlike (records_in v) (records_in w)
lends_alike v w h k = record {
  each = λ slot. (both_past _ _ _ _ _ _ _ _ h k, both_past _ _ _ _ _ _ _ _ h k, both_past _ _ _ _ _ _ _ _ h k);
}
