-- Rounds after one another: what one round more adds.
use Rattle.std.proofs.Common.{◌≡◌, ◌<◌, ℕ, suc, List, [], ◌∷◌, ◌++◌, arith, refl, sym, ap, ◌∙◌, length, take, drop, append_assoc, append-nil, length-drop, take-append-drop}
use Rattle.std.proofs.lemmas.List.{map-append}
use Rattle.rqd_core.specs.Life.{Life}
use Rattle.rqd_session.specs.Rounds.{Round, AreRounds, IsFront, IsRound, after_round, after_rounds, calls_in, line_after, lines_sent, replies_in}

-- ---- one round more

pub are_rounds-append : (l : Life) (rs : List Round) (r : Round) → AreRounds l rs → IsRound (after_rounds l rs) r → AreRounds l (rs ++ r ∷ [])
are_rounds-append l [] r are is = (is, tt)
are_rounds-append l (q ∷ rs) r are is = (are.0, are_rounds-append (after_round l q) rs r are.1 is)

pub after_rounds-append : (l : Life) (rs : List Round) (r : Round) → after_rounds l (rs ++ r ∷ []) ≡ after_round (after_rounds l rs) r
after_rounds-append l [] r = refl
after_rounds-append l (q ∷ rs) r = after_rounds-append (after_round l q) rs r

pub lines_sent-append : (l : Life) (rs : List Round) (r : Round) → lines_sent l (rs ++ r ∷ []) ≡ lines_sent l rs ++ line_after (after_rounds l rs) r.polls
lines_sent-append l [] r = append-nil (line_after l r.polls)
lines_sent-append l (q ∷ rs) r =
    ap (λ bytes. line_after l q.polls ++ bytes) (lines_sent-append (after_round l q) rs r)
    ∙ sym (append_assoc (line_after l q.polls) (lines_sent (after_round l q) rs) (line_after (after_rounds (after_round l q) rs) r.polls))

pub calls_in-append : (rs : List Round) (r : Round) → calls_in (rs ++ r ∷ []) ≡ calls_in rs ++ (r.polls ++ r.acts)
calls_in-append [] r = append-nil (r.polls ++ r.acts)
calls_in-append (q ∷ rs) r =
    ap (λ calls. (q.polls ++ q.acts) ++ calls) (calls_in-append rs r) ∙ sym (append_assoc (q.polls ++ q.acts) (calls_in rs) (r.polls ++ r.acts))

pub replies_in-append : (rs : List Round) (r : Round) → replies_in (rs ++ r ∷ []) ≡ replies_in rs ++ r.reply ∷ []
replies_in-append rs r = map-append (λ (q : Round). q.reply) rs (r ∷ [])

-- a reply a round
pub replies_count : (rs : List Round) → length (replies_in rs ++ []) ≡ length rs
replies_count [] = refl
replies_count (r ∷ rs) = ap suc (replies_count rs)

-- ---- fronts of a text

pub front_part : (text : List ℕ) (count : ℕ) → count < length text → IsFront text (take count text)
front_part text count short = (drop count text, omega (arith, length-drop count text), take-append-drop count text)

pub front_none : (text : List ℕ) → 0 < length text → IsFront text []
front_none text some = (text, some, refl)
