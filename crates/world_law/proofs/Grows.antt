-- How a world grows: its farm goes on by legal entries, and its lines and events are only added to. What a host keeps it keeps, if what is new of its own lines fits.
use Rattle.std.proofs.Common.{◌≡◌, ℕ, List, Some, Ok, sym, subst, ◌⊎◌, inl, inr}
use Rattle.std.specs.List.{slice_get}
use Rattle.farm_types.specs.declared.attempt.Attempt.{Attempt}
use Rattle.farm_types.specs.declared.attempt.DoneItem.{DoneItem}
use Rattle.farm_types.specs.declared.entry.Entry.{Entry}
use Rattle.farm_types.specs.Farm.{Farm}
use Rattle.farm_types.specs.Kept.{IsKeptFarm}
use Rattle.farm_types.specs.Run.{IsLegal, run_of}
use Rattle.farm_lines.specs.declared.launch.Launch.{Launch}
use Rattle.farm_lines.specs.declared.reply.Reply.{Reply}
use Rattle.farm_lines.specs.declared.reply.Reply.TheVariants as reply
use Rattle.farm_lines.specs.declared.reply.ReportReply.{ReportReply}
use Rattle.farm_lines.specs.declared.report.Report.{Report}
use Rattle.farm_lines.specs.declared.request.Request.{Request}
use Rattle.farm_lines.specs.declared.request.Request.TheVariants as request
use Rattle.farm_lines.specs.FormedLines.{IsFormedReply}
use Rattle.farm_lines.specs.Request.{request_of}
use Rattle.world_law.specs.declared.counted.Counted.{Counted}
use Rattle.world_law.specs.declared.event.Event.{Event}
use Rattle.world_law.specs.declared.lines.Sent.{Sent}
use Rattle.world_law.specs.declared.lines.Told.{Told}
use Rattle.world_law.specs.Among.{Has}
use Rattle.world_law.specs.Attempts.{IsOwn, IsSpent}
use Rattle.world_law.specs.Boots.{CameToBoot}
use Rattle.world_law.specs.KeptWorld.{IsAccounted, IsDue, IsHeld, IsKeptHost, IsKnownReply, IsKnownReport, IsKnownRequest, IsKnownTold, IsOfALife, IsToldTo, is_started}
use Rattle.world_law.specs.Promises.{CameFrom, DidNotFit, HasEnded, IsReported}
use Rattle.world_law.specs.World.{Host, World}
use Rattle.world_law.proofs.AttemptsGo.{own_later, spent_later}
use Rattle.world_law.proofs.Each.{each_from}
use Rattle.world_law.proofs.HostsGo.{boot_later, run_goes}

pub record Grows (w v : World) : Type 0 where
  pub entries : List Entry
  pub legal : IsLegal w.now.farm entries
  pub farm : v.now.farm ≡ run_of w.now.farm entries
  pub sent : (n : ℕ) (s : Sent) → slice_get w.sent n ≡ Some s → slice_get v.sent n ≡ Some s
  pub told : (n : ℕ) (t : Told) → slice_get w.told n ≡ Some t → slice_get v.told n ≡ Some t
  pub events : (n : ℕ) (e : Event) → slice_get w.events n ≡ Some e → slice_get v.events n ≡ Some e

-- ---- what only needs that something is there

module _ (w v : World) (g : Grows w v) where
  pub told_grows : (host : ℕ) (r : Reply) → IsToldTo w host r → IsToldTo v host r
  told_grows host r t = record { told = t.told; there = (t.there.0, g.told t.there.0 t.told t.there.1); of_host = t.of_host; reads = t.reads }

  ended_grows : (host : ℕ) (d : DoneItem) → HasEnded w host d → HasEnded v host d
  ended_grows host d h = record { ended = (h.ended.0, g.events h.ended.0 _ h.ended.1); untold = h.untold }

  unfit_grows : (host : ℕ) (d : DoneItem) → DidNotFit w host d → DidNotFit v host d
  unfit_grows host d h =
      record {
        line = h.line;
        came = (h.came.0, g.events h.came.0 _ h.came.1);
        told = h.told;
        there = g.told h.line h.told h.there;
        of_host = h.of_host;
        replied = h.replied;
        reads = h.reads;
        launch = h.launch;
        ordered = h.ordered;
        attempt = h.attempt;
        free = h.free;
        tells = h.tells;
        too_large = h.too_large;
        status = h.status;
        signal = h.signal;
      }

  pub came_grows : (host : ℕ) (d : DoneItem) → CameFrom w host d → CameFrom v host d
  came_grows host d (inl h) = inl (ended_grows host d h)
  came_grows host d (inr h) = inr (unfit_grows host d h)

  pub reported_grows : (c : Counted) → IsReported w c → IsReported v c
  reported_grows c h =
      record {
        line = h.line;
        there = g.sent c.line h.line h.there;
        of_host = h.of_host;
        report = h.report;
        reads = h.reads;
        item = h.item;
        stands = h.stands;
        attempt = h.attempt;
        exit = h.exit;
        came = came_grows c.host h.item h.came;
      }

  -- ---- what is said of the farm

  module _ (k : IsKeptFarm w.now.farm) where
    pub own_grows : (name : List ℕ) (a : Attempt) → IsOwn w.now.farm name a → IsOwn v.now.farm name a
    own_grows name a own = subst (λ (f : Farm). IsOwn f name a) (sym g.farm) (own_later w.now.farm g.entries name a k g.legal own)

    pub spent_grows : (a : Attempt) → IsSpent w.now.farm a → IsSpent v.now.farm a
    spent_grows a spent = subst (λ (f : Farm). IsSpent f a) (sym g.farm) (spent_later w.now.farm g.entries a g.legal spent)

    pub boot_grows : (name : List ℕ) (boot nonce : ℕ) → CameToBoot w.now.farm name boot nonce → CameToBoot v.now.farm name boot nonce
    boot_grows name boot nonce came =
        subst (λ (f : Farm). CameToBoot f name boot nonce) (sym g.farm) (boot_later w.now.farm (run_of w.now.farm g.entries) (run_goes w.now.farm g.entries) name boot nonce came)

    -- ---- a host

    module _ (host : ℕ) (h : Host) where
      held_grows : (a : Attempt) → IsHeld h a ⊎ IsSpent w.now.farm a → IsHeld h a ⊎ IsSpent v.now.farm a
      held_grows a (inl held) = inl held
      held_grows a (inr spent) = inr (spent_grows a spent)

      account_grows : (a : Attempt) → IsAccounted w.now.farm h a → IsAccounted v.now.farm h a
      account_grows a was = record { own = own_grows h.life.config.name a was.own; held = held_grows a was.held }

      pub life_grows : (boot seq : ℕ) → IsOfALife w host h boot seq → IsOfALife v host h boot seq
      life_grows boot seq of = record { nonce = of.nonce; told = told_grows host (reply.Boot boot of.nonce) of.told; used = of.used; past = of.past }

      report_grows : (r : Report) → IsKnownReport w host h r → IsKnownReport v host h r
      report_grows r was =
          record {
            name = was.name;
            life = life_grows r.heard.boot r.heard.seq was.life;
            came = each_from (CameFrom w host) (CameFrom v host) (came_grows host) r.heard.done was.came;
          }

      request_grows : (r : Request) → IsKnownRequest w host h r → IsKnownRequest v host h r
      request_grows (request.Boot line) was = was
      request_grows (request.Report r) was = report_grows r was
      request_grows other was = tt

      due_grows : (r : ReportReply) → IsDue w.now.farm h r → IsDue v.now.farm h r
      due_grows r was =
          record {
            acks =
                each_from (λ a. is_started h a → IsSpent w.now.farm a) (λ a. is_started h a → IsSpent v.now.farm a) (λ a over started. spent_grows a (over started)) r.acks
                was.acks;
            launches = was.launches;
          }

      known_grows : (r : ReportReply) → IsKnownTold w host h r → IsKnownTold v host h r
      known_grows r was =
          record {
            life = life_grows r.boot r.seq was.life;
            own =
                each_from (λ (l : Launch). IsOwn w.now.farm h.life.config.name l.attempt) (λ (l : Launch). IsOwn v.now.farm h.life.config.name l.attempt)
                (λ l own. own_grows h.life.config.name l.attempt own) r.launches was.own;
            apart = was.apart;
            due = λ awaited. due_grows r (was.due awaited);
          }

      reply_grows : (r : Reply) → IsKnownReply w host h r → IsKnownReply v host h r
      reply_grows (reply.Boot boot nonce) was = (boot_grows h.life.config.name boot nonce was.0, was.1)
      reply_grows (reply.Report r) was = known_grows r was
      reply_grows other was = tt

      -- ---- with lines of its own that are new

      pub record FitsNew (NewSent : Sent → Type 0) (New : Reply → Type 0) : Type 0 where
        pub sent_of : (s : Sent) → Has v.sent s → s.host ≡ Some host → Has w.sent s ⊎ NewSent s
        pub told_of : (r : Reply) → IsToldTo v host r → IsToldTo w host r ⊎ New r
        pub sent : (s : Sent) → NewSent s → (r : Request) → request_of s.line ≡ Ok r → IsKnownRequest v host h r
        pub formed : (r : Reply) → New r → IsFormedReply r
        pub told : (r : Reply) → New r → IsKnownReply v host h r
        pub boots : (boot a b : ℕ) → New (reply.Boot boot a) → IsToldTo v host (reply.Boot boot b) → a ≡ b

      module _ (NewSent : Sent → Type 0) (New : Reply → Type 0) (fits : FitsNew NewSent New) (was : IsKeptHost w host h) where
        sent_by : (s : Sent) → Has w.sent s ⊎ NewSent s → s.host ≡ Some host → (r : Request) → request_of s.line ≡ Ok r → IsKnownRequest v host h r
        sent_by s (inl old) of r reads = request_grows r (was.sent s old of r reads)
        sent_by s (inr new) of r reads = fits.sent s new r reads

        formed_by : (r : Reply) → IsToldTo w host r ⊎ New r → IsFormedReply r
        formed_by r (inl old) = was.formed r old
        formed_by r (inr new) = fits.formed r new

        told_by : (r : Reply) → IsToldTo w host r ⊎ New r → IsKnownReply v host h r
        told_by r (inl old) = reply_grows r (was.told r old)
        told_by r (inr new) = fits.told r new

        boots_by : (boot a b : ℕ) → IsToldTo w host (reply.Boot boot a) ⊎ New (reply.Boot boot a) → IsToldTo w host (reply.Boot boot b) ⊎ New (reply.Boot boot b)
            → IsToldTo v host (reply.Boot boot a) → IsToldTo v host (reply.Boot boot b) → a ≡ b
        boots_by boot a b (inl x) (inl y) first second = was.boots boot a b x y
        boots_by boot a b (inr x) y first second = fits.boots boot a b x second
        boots_by boot a b (inl x) (inr y) first second = sym (fits.boots boot b a y first)

        pub host_grows : IsKeptHost v host h
        host_grows =
            record {
              life = was.life;
              within = was.within;
              nonce = was.nonce;
              differ = was.differ;
              started = each_from (IsAccounted w.now.farm h) (IsAccounted v.now.farm h) account_grows h.started was.started;
              came = each_from (CameFrom w host) (CameFrom v host) (came_grows host) h.life.finished was.came;
              boot = λ boot is. told_grows host (reply.Boot boot h.life.config.nonce) (was.boot boot is);
              sent = λ s has of r reads. sent_by s (fits.sent_of s has of) of r reads;
              formed = λ r told. formed_by r (fits.told_of r told);
              told = λ r told. told_by r (fits.told_of r told);
              boots = λ boot a b first second. boots_by boot a b (fits.told_of (reply.Boot boot a) first) (fits.told_of (reply.Boot boot b) second) first second;
            }

-- ---- where nothing of its own is new

pub record IsOthers (w v : World) (host : ℕ) : Type 0 where
  pub sent : (s : Sent) → Has v.sent s → s.host ≡ Some host → Has w.sent s
  pub told : (t : Told) → Has v.told t → t.host ≡ host → Has w.told t

told_before : (w v : World) (host : ℕ) → IsOthers w v host → (r : Reply) → IsToldTo v host r → IsToldTo w host r
told_before w v host others r t = record { told = t.told; there = others.told t.told t.there t.of_host; of_host = t.of_host; reads = t.reads }

pub host_stays : (w v : World) → Grows w v → IsKeptFarm w.now.farm → (host : ℕ) (h : Host) → IsOthers w v host → IsKeptHost w host h → IsKeptHost v host h
host_stays w v g k host h others was =
    host_grows w v g k host h (λ s. ⊥) (λ r. ⊥)
    (record {
      sent_of = λ s has of. inl (others.sent s has of);
      told_of = λ r told. inl (told_before w v host others r told);
      sent = λ s none. absurd none;
      formed = λ r none. absurd none;
      told = λ r none. absurd none;
      boots = λ boot a b none. absurd none;
    })
    was
