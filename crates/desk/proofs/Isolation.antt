-- Whole histories of requests: the table's bytes hold the call at each place, so what is answered at a place is what its own call says.
-- Assumes nothing.
use mathlib.Core.Path.{◌≡◌, refl, sym, ap, subst, ◌∙◌}
use mathlib.Core.Bool.{Bool, true, false}
use mathlib.Core.Logic.{◌≢◌}
use mathlib.Core.List.{List, [], ◌∷◌}
use Prim.Native.Nat.{ℕ, ◌≤◌}
use native.Mathlib.Omega.{arith}
use borrow.Author.Tests.{eqb-true, eqb-false, le-ltb}
use lib.Dec.{eqb}
use lib.ListN.{length}
use Rattle.sets.specs.Tests.{◌and◌, non, when◌then◌else◌}
use Rattle.sets.specs.Answers.{is_done, then_ask}
use Rattle.sets.specs.declared.answer.Answer.{Answer}
use Rattle.sets.specs.declared.answer.Answer.TheVariants.{Done, BufferTooSmall, NoPlaceFree, NotOpen}
use Rattle.sets.proofs.Tests.{false→F}
use Rattle.sets.proofs.Below.{every-ext, least-ext}
use Rattle.sets.proofs.Asking.{done-is}
use Rattle.engine.specs.Markings.{empty_marking}
use Rattle.engine.specs.Judged.{judged}
use Rattle.engine.specs.Replay.{enabled_of, next_marking}
use Rattle.engine.specs.declared.marking.Marking.{Marking}
use Rattle.engine.specs.declared.graph.Graph.{Graph}
use Rattle.graphfile.proofs.LoneMarkings.{WholeMarking}
use Rattle.desk.specs.Places.{place_count, table_length, is_open, marking_at_place, with_marking, with_place, lowest_free}
use Rattle.desk.specs.Desk.{form_of, on_table, opening, open_answer, table_opened, step_answer, table_stepped, closing, close_answer, table_closed}
use Rattle.desk.specs.Histories.{Request, Open, Step, Close, Fresh, Call, none, since, is_taken, table_served, table_after, marking_after}
use Rattle.desk.specs.Histories.{step_by, close_by, with_step, stepped, closed, call_at}
use Rattle.desk.proofs.Placing.{open-below, open_kept, marking-kept, marking-same, length_marked, length-placed}
use Rattle.desk.proofs.Placing.{placed-open, placed-marking, else-open, else-marking}
use Rattle.desk.proofs.Serving.{open_done, open-accepted, step-done, step-enabled, close-done}
use Rattle.desk.proofs.Keeping.{whole-next, opening-held, next-held}

-- ---- which places are taken decides open

pub opening-ext : (g : Graph) (s t : ℕ → Bool) → ((p : ℕ) → s p ≡ t p) → opening g s ≡ opening g t
unfolding opening
opening-ext g s t e =
    ap (λ (b : Bool). then_ask (judged g) (when b then NoPlaceFree else Done)) (every-ext place_count s t (λ a l. e a))

pub lowest-ext : (s t : ℕ → Bool) → ((p : ℕ) → s p ≡ t p) → lowest_free s ≡ lowest_free t
unfolding lowest_free
lowest-ext s t e = least-ext place_count (λ p. non (s p)) (λ p. non (t p)) (λ a l. ap non (e a))

-- ---- a table holds a call at a place

module _ (g : Graph) where
  abbrev form : Bool
  form = form_of g

  abbrev pub HoldsAt : List ℕ → ℕ → Call → Type 0
  HoldsAt table p none = is_open form table p ≡ false
  HoldsAt table p (since past) = (is_open form table p ≡ true) × (marking_at_place form table p ≡ marking_after g past)

  -- a table that has all of the calls
  pub record Holds (table : List ℕ) (calls : ℕ → Call) : Type 0 where
    pub long : table_length form ≤ length table
    pub each : (p : ℕ) → HoldsAt table p (calls p)

  holds-open : (table : List ℕ) (p : ℕ) (c : Call) → HoldsAt table p c → is_open form table p ≡ is_taken c
  holds-open table p none h = h
  holds-open table p (since past) h = h.0

  -- a table that is the same at the place holds it too
  holds_on : (table table' : List ℕ) (p : ℕ) (c : Call) → is_open form table' p ≡ is_open form table p → marking_at_place form table' p ≡ marking_at_place form table p
      → HoldsAt table p c → HoldsAt table' p c
  holds_on table table' p none o m h = o ∙ h
  holds_on table table' p (since past) o m h = (o ∙ h.0, m ∙ h.1)

  -- ---- what is answered is what the calls say

  module _ (table : List ℕ) (long : table_length form ≤ length table) where
    on : (x : Answer) → on_table form table x ≡ x
    on x = ap (λ (t : Bool). when t then BufferTooSmall else x) (le-ltb (length table) (table_length form) long)

    pub step-says : (p : ℕ) (c : Call) → HoldsAt table p c → (a : ℕ) → step_answer g table p a ≡ step_by g c a
    unfolding step_answer step_by non
    step-says p none h a =
        on _ ∙ ap (λ (t : Bool). when non t then NotOpen else enabled_of g (marking_at_place form table p) a) h
    step-says p (since past) h a =
        on _
        ∙ ap (λ (t : Bool). when non t then NotOpen else enabled_of g (marking_at_place form table p) a) h.0
        ∙ ap (λ (m : Marking). enabled_of g m a) h.1

    pub close-says : (p : ℕ) (c : Call) → HoldsAt table p c → close_answer g table p ≡ close_by g c
    unfolding close_answer close_by non
    close-says p none h = on _ ∙ ap (λ (t : Bool). when non t then NotOpen else closing g (marking_at_place form table p)) h
    close-says p (since past) h =
        on _
        ∙ ap (λ (t : Bool). when non t then NotOpen else closing g (marking_at_place form table p)) h.0
        ∙ ap (closing g) h.1

  module _ (table : List ℕ) (calls : ℕ → Call) (holds : Holds table calls) where
    pub taken-says : (p : ℕ) → is_open form table p ≡ is_taken (calls p)
    taken-says p = holds-open table p (calls p) (holds.each p)

    pub open-says : open_answer g table ≡ opening g (λ p. is_taken (calls p))
    unfolding open_answer
    open-says = on table holds.long _ ∙ opening-ext g (is_open form table) (λ p. is_taken (calls p)) taken-says

    pub lowest-says : lowest_free (is_open form table) ≡ lowest_free (λ p. is_taken (calls p))
    lowest-says = lowest-ext (is_open form table) (λ p. is_taken (calls p)) taken-says

    -- ---- served, the table holds the calls after the request

    module _ (whole : WholeMarking g.head.opening) where
      opened-holds : (done : Bool) → is_done (open_answer g table) ≡ done → (p : ℕ)
          → HoldsAt (when done then with_place form table (lowest_free (is_open form table)) 1 g.head.opening else table) p
          (when done and eqb p (lowest_free (λ q. is_taken (calls q))) then since [] else calls p)
      unfolding ◌and◌ non marking_after
      opened-holds false d p = holds.each p
      opened-holds true d p = by (eqb p (lowest_free (λ q. is_taken (calls q)))) refl
        where
          n : ℕ
          n = lowest_free (is_open form table)

          by : (same : Bool) → eqb p (lowest_free (λ q. is_taken (calls q))) ≡ same
              → HoldsAt (with_place form table n 1 g.head.opening) p (when same then since [] else calls p)
          by true e =
              let here : p ≡ n = eqb-true p _ e ∙ sym lowest-says in
              let said = done-is (open_answer g table) d in
              let there = (open_done table g said).1 in
              let held = opening-held g (open-accepted table g said) whole in
              subst (λ (q : ℕ). HoldsAt (with_place form table n 1 g.head.opening) q (since [])) (sym here)
              (placed-open form table n 1 g.head.opening holds.long there, placed-marking form table n 1 g.head.opening holds.long there whole held)
          by false e =
              let other : n ≢ p = λ k. eqb-false p _ e (sym k ∙ lowest-says) in
              holds_on table (with_place form table n 1 g.head.opening) p (calls p)
              (else-open form table n 1 g.head.opening p other) (else-marking form table n 1 g.head.opening p other) (holds.each p)

      stepped-holds : (q a : ℕ) (done : Bool) → is_done (step_answer g table q a) ≡ done → (p : ℕ)
          → HoldsAt (when done then with_marking form table q (next_marking g (marking_at_place form table q) a) else table) p
          (when eqb p q then stepped g (calls p) a else calls p)
      unfolding marking_after
      stepped-holds q a done d p = by done d (eqb p q) refl
        where
          new : Marking
          new = next_marking g (marking_at_place form table q) a

          own : (c : Call) → HoldsAt table q c → step_answer g table q a ≡ Done → HoldsAt (with_marking form table q new) q (with_step a c)
          own none h said = absurd (false→F h (step-done table g q a said).1)
          own (since past) h said = (
            open_kept form table q q new ∙ h.0,
            marking-same form table holds.long q (open-below form table q (step-done table g q a said).1) new (whole-next g (marking_at_place form table q) a)
                (next-held g (marking_at_place form table q) a (step-enabled table g q a said))
                ∙ ap (λ (m : Marking). next_marking g m a) h.1,
          )

          here : (done : Bool) → is_done (step_answer g table q a) ≡ done → q ≡ p
              → HoldsAt (when done then with_marking form table q new else table) p (when done then with_step a (calls p) else calls p)
          here false d e = holds.each p
          here true d e =
              subst (λ (k : ℕ). HoldsAt (with_marking form table q new) k (with_step a (calls k))) e
              (own (calls q) (holds.each q) (done-is (step_answer g table q a) d))

          by : (done : Bool) → is_done (step_answer g table q a) ≡ done → (same : Bool) → eqb p q ≡ same
              → HoldsAt (when done then with_marking form table q new else table) p (when same then stepped g (calls p) a else calls p)
          by done d true e =
              let own : q ≡ p = sym (eqb-true p q e) in
              let said : done ≡ is_done (step_by g (calls p) a) =
              sym d
              ∙ ap (λ (k : ℕ). is_done (step_answer g table k a)) own
              ∙ ap is_done (step-says table holds.long p (calls p) (holds.each p) a) in
              subst (λ (b : Bool). HoldsAt (when done then with_marking form table q new else table) p (when b then with_step a (calls p) else calls p)) said
              (here done d own)
          by false d false e = holds.each p
          by true d false e =
              let other : q ≢ p = λ k. eqb-false p q e (sym k) in
              holds_on table (with_marking form table q new) p (calls p) (open_kept form table q p new) (marking-kept form table q p new other) (holds.each p)

      closed-holds : (q : ℕ) (done : Bool) → is_done (close_answer g table q) ≡ done → (p : ℕ)
          → HoldsAt (when done then with_place form table q 0 empty_marking else table) p (when eqb p q then closed g (calls p) else calls p)
      unfolding non
      closed-holds q done d p = by done d (eqb p q) refl
        where
          here : (done : Bool) → is_done (close_answer g table q) ≡ done → q ≡ p
              → HoldsAt (when done then with_place form table q 0 empty_marking else table) p (when done then none else calls p)
          here false d e = holds.each p
          here true d e =
              let there = open-below form table q (close-done table g q (done-is (close_answer g table q) d)).1 in
              subst (λ (k : ℕ). HoldsAt (with_place form table q 0 empty_marking) k none) e (placed-open form table q 0 empty_marking holds.long there)

          by : (done : Bool) → is_done (close_answer g table q) ≡ done → (same : Bool) → eqb p q ≡ same
              → HoldsAt (when done then with_place form table q 0 empty_marking else table) p (when same then closed g (calls p) else calls p)
          by done d true e =
              let own : q ≡ p = sym (eqb-true p q e) in
              let said : done ≡ is_done (close_by g (calls p)) =
              sym d
              ∙ ap (λ (k : ℕ). is_done (close_answer g table k)) own
              ∙ ap is_done (close-says table holds.long p (calls p) (holds.each p)) in
              subst (λ (b : Bool). HoldsAt (when done then with_place form table q 0 empty_marking else table) p (when b then none else calls p)) said
              (here done d own)
          by false d false e = holds.each p
          by true d false e =
              let other : q ≢ p = λ k. eqb-false p q e (sym k) in
              holds_on table (with_place form table q 0 empty_marking) p (calls p)
              (else-open form table q 0 empty_marking p other) (else-marking form table q 0 empty_marking p other) (holds.each p)

  -- ---- the table stays one

  kept-length : (done : Bool) (table new : List ℕ) → length new ≡ length table → length (when done then new else table) ≡ length table
  kept-length true table new e = e
  kept-length false table new e = refl

  pub served-length : (table : List ℕ) (r : Request) → length (table_served g table r) ≡ length table
  unfolding table_served table_opened table_stepped table_closed
  served-length table Open = kept-length (is_done (open_answer g table)) table _ (length-placed form table (lowest_free (is_open form table)) 1 g.head.opening)
  served-length table (Step p a) =
      kept-length (is_done (step_answer g table p a)) table _ (length_marked form table p (next_marking g (marking_at_place form table p) a))
  served-length table (Close p) = kept-length (is_done (close_answer g table p)) table _ (length-placed form table p 0 empty_marking)

  -- ---- a history

  module _ (whole : WholeMarking g.head.opening) (table : List ℕ) (fresh : Fresh form table) where
    longer : (t : List ℕ) (r : Request) → table_length form ≤ length t → table_length form ≤ length (table_served g t r)
    longer t r l = omega (arith, served-length t r)

    -- THE TABLE HOLDS THE CALLS, after every history
    pub history-holds : (history : List Request) → Holds (table_after g table history) (call_at g history)
    unfolding table_after call_at table_served table_opened table_stepped table_closed
    history-holds [] = record { long = fresh.long; each = fresh.free }
    history-holds (Open ∷ history) =
        let t = table_after g table history in
        let before = history-holds history in
        record {
          long = longer t Open before.long;
          each = λ p.
              subst
              (λ (d : Bool). HoldsAt (table_opened g t) p
              (when d and eqb p (lowest_free (λ q. is_taken (call_at g history q))) then since [] else call_at g history p))
              (ap is_done (open-says t (call_at g history) before))
              (opened-holds t (call_at g history) before whole (is_done (open_answer g t)) refl p);
        }
    history-holds (Step q a ∷ history) =
        let t = table_after g table history in
        let before = history-holds history in
        record {
          long = longer t (Step q a) before.long;
          each = stepped-holds t (call_at g history) before whole q a (is_done (step_answer g t q a)) refl;
        }
    history-holds (Close q ∷ history) =
        let t = table_after g table history in
        let before = history-holds history in
        record {
          long = longer t (Close q) before.long;
          each = closed-holds t (call_at g history) before whole q (is_done (close_answer g t q)) refl;
        }

    module _ (history : List Request) where
      -- ISOLATION: what step and close answer at a place is what the graph and the place's own call say
      pub step-own : (p a : ℕ) → step_answer g (table_after g table history) p a ≡ step_by g (call_at g history p) a
      step-own p a =
          let h = history-holds history in step-says (table_after g table history) h.long p (call_at g history p) (h.each p) a

      pub close-own : (p : ℕ) → close_answer g (table_after g table history) p ≡ close_by g (call_at g history p)
      close-own p = let h = history-holds history in close-says (table_after g table history) h.long p (call_at g history p) (h.each p)

      -- open is answered by which places have a call
      pub open_own : open_answer g (table_after g table history) ≡ opening g (λ p. is_taken (call_at g history p))
      open_own = open-says (table_after g table history) (call_at g history) (history-holds history)

      pub lowest-own : lowest_free (is_open form (table_after g table history)) ≡ lowest_free (λ p. is_taken (call_at g history p))
      lowest-own = lowest-says (table_after g table history) (call_at g history) (history-holds history)
