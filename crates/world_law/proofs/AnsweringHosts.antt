-- What hosts keep as a line comes to the scheduler: the reply to a host's line is one that fits it.
use Rattle.std.proofs.Common.{◌≡◌, ◌≢◌, ◌<◌, ◌^◌, ℕ, List, [], ◌∷◌, ◌++◌, Option, None, Some, Ok, refl, sym, ap, subst, ◌∙◌, ◌⊎◌, inl, inr}
use Rattle.std.specs.List.{AllByRecursion, slice_get}
use Rattle.std.proofs.lemmas.Option.{none-some, same_Some}
use Rattle.farm_types.specs.declared.attempt.Attempt.{Attempt}
use Rattle.farm_types.specs.declared.attempt.DoneItem.{DoneItem}
use Rattle.farm_types.specs.declared.rows.HostRow.{HostRow}
use Rattle.farm_types.specs.Farm.{Farm}
use Rattle.farm_types.specs.Run.{is_same}
use Rattle.farm_types.proofs.Changed.{places}
use Rattle.farm_lines.specs.declared.launch.Launch.{Launch}
use Rattle.farm_lines.specs.declared.reply.Reply.{Reply}
use Rattle.farm_lines.specs.declared.reply.Reply.TheVariants as reply
use Rattle.farm_lines.specs.declared.request.Request.{Request}
use Rattle.farm_lines.specs.declared.request.Request.TheVariants as request
use Rattle.farm_lines.specs.FormedLines.{IsFormedReply}
use Rattle.farm_lines.specs.Reply.{reply_text}
use Rattle.farm_lines.specs.ReplyLines.{reply_of}
use Rattle.farm_lines.specs.Request.{request_of}
use Rattle.world_law.specs.declared.lines.Sent.{Sent}
use Rattle.world_law.specs.declared.lines.Told.{Told}
use Rattle.world_law.specs.Among.{Has}
use Rattle.world_law.specs.Attempts.{IsOwn, IsSpent}
use Rattle.world_law.specs.Boots.{CameToBoot}
use Rattle.world_law.specs.KeptWorld.{IsAccounted, IsHeld, IsKeptHost, IsKeptWorld, IsKnownReply, IsKnownReport, IsKnownRequest, IsKnownTold, IsOfALife, IsToldTo, is_started}
use Rattle.world_law.specs.Lines.{answered, mark_of, replies_to, with_answer}
use Rattle.world_law.specs.World.{History, Host, World}
use Rattle.world_law.proofs.Answering.{answer_grows, kind, made, now_kept}
use Rattle.world_law.proofs.Differ.{any_each, same_is}
use Rattle.world_law.proofs.Each.{each_from, each_map, has_of, has_one}
use Rattle.world_law.proofs.Grows.{Grows, boot_grows, host_grows, host_stays, life_grows, spent_grows}
use Rattle.world_law.proofs.LineKinds.{IsOther}
use Rattle.world_law.proofs.LineReplies.{IsBootTold, IsReportTold, IsTold, line_told}
use Rattle.world_law.proofs.LowerLaws.{LowerLaws}

other_known : (w : World) (host : ℕ) (h : Host) (r : Reply) → IsOther r → IsKnownReply w host h r
other_known w host h (reply.Boot boot nonce) other = absurd other
other_known w host h (reply.Report r) other = absurd other
other_known w host h r other = tt

other_apart : (r : Reply) (boot nonce : ℕ) → IsOther r → r ≡ reply.Boot boot nonce → ⊥
other_apart r boot nonce other is = subst IsOther is other

abbrev boot_told : Reply → Option ℕ
boot_told (reply.Boot boot nonce) = Some boot
boot_told other = None

abbrev nonce_told : Reply → Option ℕ
nonce_told (reply.Boot boot nonce) = Some nonce
nonce_told other = None

-- a boot number has one nonce: that of the row which has it
same_nonce : (f : Farm) (name : List ℕ) (boot a b : ℕ) (x : CameToBoot f name boot a) (y : CameToBoot f name boot b) → boot ≡ x.row.boot → a ≡ b
same_nonce f name boot a b x y exact =
    let place = same_Some x.place y.place (sym x.named ∙ y.named) in
    let row : x.row ≡ y.row = same_Some x.row y.row (sym x.there ∙ (ap (slice_get f.hosts) place ∙ y.there)) in
    let there : boot ≡ y.row.boot = exact ∙ ap (λ (r : HostRow). r.boot) row in
    x.with_nonce exact ∙ (ap (λ (r : HostRow). r.nonce) row ∙ sym (y.with_nonce there))

module _ (laws : LowerLaws) (w : World) (kept : IsKeptWorld w) (line : ℕ) (s : Sent) (there : slice_get w.sent line ≡ Some s) (moment : ℕ) (low : moment < 2 ^ 64)
    (refused : Option ℕ) (left : List History) where
  abbrev v : World
  v = with_answer w line s moment refused left

  abbrev r : Reply
  r = (answered w s moment refused).reply

  grows : Grows w v
  grows = answer_grows laws w kept line s there moment low refused left

  module _ (host : ℕ) (h : Host) (at : slice_get w.hosts host ≡ Some h) (of : s.host ≡ Some host) where
    was : IsKeptHost w host h
    was = kept.hosts host h at

    asks : (q : Request) → request_of s.line ≡ Ok q → IsKnownRequest w host h q
    asks q reads = was.sent s (line, there) of q reads

    -- ---- an attempt that this life started

    started_account : (a : Attempt) → is_started h a → IsAccounted w.now.farm h a
    started_account a is =
        let found = any_each (IsAccounted w.now.farm h) (is_same a) h.started was.started is in
        subst (IsAccounted w.now.farm h) (sym (same_is a found.0 found.1)) found.2

    live_held : (a : Attempt) → (IsSpent v.now.farm a → ⊥) → IsHeld h a ⊎ IsSpent w.now.farm a → IsHeld h a
    live_held a live (inl held) = held
    live_held a live (inr spent) = absurd (live (spent_grows w v grows (now_kept laws w kept line s there moment low) a spent))

    -- ---- the reply to a report

    report_known : (t : IsReportTold w.now.farm v.now.farm s.line r) → IsKnownTold v host h t.replied
    report_known t =
        let asked : IsKnownReport w host h t.report = asks (request.Report t.report) t.reads in
        record {
          life =
              subst (λ (n : ℕ). IsOfALife v host h n t.replied.seq) (sym t.boot)
              (subst (λ (n : ℕ). IsOfALife v host h t.report.heard.boot n) (sym t.seq)
              (life_grows w v grows (now_kept laws w kept line s there moment low) host h t.report.heard.boot t.report.heard.seq asked.life));
          own = subst (λ (name : List ℕ). AllByRecursion (λ (l : Launch). IsOwn v.now.farm name l.attempt) t.replied.launches) asked.name t.own;
          apart = t.apart;
          due = λ awaits.
              record {
                acks =
                    subst (AllByRecursion (λ a. is_started h a → IsSpent v.now.farm a)) (sym t.acks)
                    (each_map (λ a. is_started h a → IsSpent v.now.farm a) (λ (d : DoneItem). d.attempt) t.report.heard.done
                    (each_from (λ (d : DoneItem). IsOwn w.now.farm t.report.heard.host d.attempt → IsSpent v.now.farm d.attempt)
                    (λ (d : DoneItem). is_started h d.attempt → IsSpent v.now.farm d.attempt)
                    (λ d over is. over (subst (λ (name : List ℕ). IsOwn w.now.farm name d.attempt) (sym asked.name) (started_account d.attempt is).own))
                    t.report.heard.done t.over));
                launches =
                    each_from (λ (l : Launch). IsSpent v.now.farm l.attempt → ⊥) (λ (l : Launch). is_started h l.attempt → IsHeld h l.attempt)
                    (λ l live is. live_held l.attempt live (started_account l.attempt is).held) t.replied.launches t.live;
              };
        }

    -- ---- the reply to a boot

    boot_came : (t : IsBootTold v.now.farm s.line r) → CameToBoot v.now.farm h.life.config.name t.number t.boot.nonce
    boot_came t = subst (λ (name : List ℕ). CameToBoot v.now.farm name t.number t.boot.nonce) (asks (request.Boot t.boot) t.reads).0 t.came

    -- ---- any reply

    tells : IsTold w.now.farm v.now.farm s.line r
    tells = line_told w.now.farm s.line moment low (made laws w kept line s there moment low) (now_kept laws w kept line s there moment low)
        (kind laws w kept line s there moment low) refused

    known_by : IsTold w.now.farm v.now.farm s.line r → IsKnownReply v host h r
    known_by (inl other) = other_known v host h r other
    known_by (inr (inl t)) = subst (IsKnownReply v host h) (sym t.is) (boot_came t, (asks (request.Boot t.boot) t.reads).1)
    known_by (inr (inr t)) = subst (IsKnownReply v host h) (sym t.is) (report_known t)

    -- the reply that was sent is the one that is read
    read_new : (q : Reply) → reply_of (reply_text r) ≡ Some q → r ≡ q
    read_new q reads = same_Some r q (sym (laws.back w.now.farm s.line moment (mark_of refused) (now_kept laws w kept line s there moment low) low) ∙ reads)

    told_by : (q : Reply) (t : IsToldTo v host q) → (slice_get w.told t.there.0 ≡ Some t.told) ⊎ Has (record { host = host; line = reply_text r } ∷ []) t.told
        → IsToldTo w host q ⊎ (r ≡ q)
    told_by q t (inl old) = inl (record { told = t.told; there = (t.there.0, old); of_host = t.of_host; reads = t.reads })
    told_by q t (inr new) =
        let same = has_one (record { host = host; line = reply_text r }) t.told new in
        inr (read_new q (ap (λ (x : Told). reply_of x.line) same ∙ t.reads))

    replies_here : replies_to s.host r ≡ record { host = host; line = reply_text r } ∷ []
    replies_here = ap (λ (o : Option ℕ). replies_to o r) of

    told_of : (q : Reply) → IsToldTo v host q → IsToldTo w host q ⊎ (r ≡ q)
    told_of q t =
        told_by q t
        (has_of w.told (record { host = host; line = reply_text r } ∷ []) t.there.0 t.told
        (subst (λ (ts : List Told). slice_get (w.told ++ ts) t.there.0 ≡ Some t.told) replies_here t.there.1))

    -- ---- one nonce for each boot number

    old_boot : (t : IsBootTold v.now.farm s.line r) (boot a b : ℕ) → r ≡ reply.Boot boot a → IsToldTo w host (reply.Boot boot b) → a ≡ b
    old_boot t boot a b is old =
        let number : t.number ≡ boot = same_Some t.number boot (ap boot_told (sym t.is ∙ is)) in
        let nonce : t.boot.nonce ≡ a = same_Some t.boot.nonce a (ap nonce_told (sym t.is ∙ is)) in
        let name = (asks (request.Boot t.boot) t.reads).0 in
        let y = boot_grows w v grows (now_kept laws w kept line s there moment low) h.life.config.name boot b (was.told (reply.Boot boot b) old).0 in
        sym nonce
        ∙ same_nonce v.now.farm t.boot.host t.number t.boot.nonce b t.came
        (subst (λ (n : ℕ). CameToBoot v.now.farm t.boot.host n b) (sym number) (subst (λ (text : List ℕ). CameToBoot v.now.farm text boot b) (sym name) y)) t.exact

    boots_by : IsTold w.now.farm v.now.farm s.line r → (boot a b : ℕ) → r ≡ reply.Boot boot a → IsToldTo w host (reply.Boot boot b) ⊎ (r ≡ reply.Boot boot b) → a ≡ b
    boots_by t boot a b is (inr also) = same_Some a b (ap nonce_told (sym is ∙ also))
    boots_by (inl other) boot a b is (inl old) = absurd (other_apart r boot a other is)
    boots_by (inr (inl t)) boot a b is (inl old) = old_boot t boot a b is old
    boots_by (inr (inr t)) boot a b is (inl old) = absurd (none-some boot (ap boot_told (sym t.is ∙ is)))

    pub sender_answered : IsKeptHost v host h
    sender_answered =
        host_grows w v grows (now_kept laws w kept line s there moment low) host h (λ x. ⊥) (λ q. r ≡ q)
        (record {
          sent_of = λ x has is. inl has;
          told_of = told_of;
          sent = λ x none. absurd none;
          formed = λ q is. subst (λ (p : Reply). IsFormedReply p) is (laws.formed w.now.farm s.line moment (mark_of refused) (now_kept laws w kept line s there moment low) low);
          told = λ q is. subst (IsKnownReply v host h) is (known_by tells);
          boots = λ boot a b is told. boots_by tells boot a b is (told_of (reply.Boot boot b) told);
        })
        was

  -- ---- other hosts

  none_told : (host : ℕ) (o : Option ℕ) → s.host ≡ o → (s.host ≡ Some host → ⊥) → (t : Told) → Has (w.told ++ replies_to o r) t → t.host ≡ host → Has w.told t
  none_told host None is apart t has of = by (has_of w.told [] has.0 t has.1)
    where
      by : (slice_get w.told has.0 ≡ Some t) ⊎ Has [] t → Has w.told t
      by (inl old) = (has.0, old)
      by (inr new) = absurd (none-some t new.1)
  none_told host (Some other) is apart t has of = by (has_of w.told (record { host = other; line = reply_text r } ∷ []) has.0 t has.1)
    where
      by : (slice_get w.told has.0 ≡ Some t) ⊎ Has (record { host = other; line = reply_text r } ∷ []) t → Has w.told t
      by (inl old) = (has.0, old)
      by (inr new) =
          let same = has_one (record { host = other; line = reply_text r }) t new in
          absurd (apart (is ∙ ap Some (ap (λ (x : Told). x.host) same ∙ of)))

  other_answered : (host : ℕ) (h : Host) → slice_get w.hosts host ≡ Some h → (s.host ≡ Some host → ⊥) → IsKeptHost v host h
  other_answered host h at apart =
      host_stays w v grows (now_kept laws w kept line s there moment low) host h
      (record { sent = λ x has is. has; told = λ t has of. none_told host s.host refl apart t has of }) (kept.hosts host h at)

  host_by : (host : ℕ) (h : Host) (o : Option ℕ) → slice_get w.hosts host ≡ Some h → s.host ≡ o → IsKeptHost v host h
  host_by host h None at is = other_answered host h at (λ same. none-some host (sym is ∙ same))
  host_by host h (Some sender) at is = by (places host sender)
    where
      by : (host ≡ sender) ⊎ (host ≢ sender) → IsKeptHost v host h
      by (inl same) = sender_answered host h at (is ∙ ap Some (sym same))
      by (inr apart) = other_answered host h at (λ of. apart (same_Some host sender (sym of ∙ is)))

  pub hosts_answered : (host : ℕ) (h : Host) → slice_get w.hosts host ≡ Some h → IsKeptHost (with_answer w line s moment refused left) host h
  hosts_answered host h at = host_by host h s.host at refl
