-- A request judged, then served: each way out of the code gives what the definitions have there. Assumes nothing.
use mathlib.Core.Path.{◌≡◌, refl, sym, ap, ◌∙◌}
use mathlib.Core.Bool.{Bool, true, false}
use mathlib.Core.List.{List}
use Prim.Native.Nat.{ℕ, ◌≤◌, ◌<◌}
use borrow.Author.Tests.{ltb-true, ltb-false}
use lib.Dec.{T, ltb}
use lib.ListN.{length}
use Rattle.sets.specs.Tests.{non, when◌then◌else◌}
use Rattle.sets.specs.Members.{every_below}
use Rattle.sets.specs.Answers.{is_done}
use Rattle.sets.specs.declared.set.Set.{Set}
use Rattle.sets.specs.declared.answer.Answer.{Answer}
use Rattle.sets.specs.declared.answer.Answer.TheVariants.{Done, BufferTooSmall, NoPlaceFree, NotOpen}
use Rattle.sets.proofs.Tests.{true→T}
use Rattle.sets.proofs.Asking.{done-is, both}
use Rattle.sets.proofs.Ways.{failed, held, taken, passed-by}
use Rattle.engine.specs.Relations.{Relations, relations_of}
use Rattle.engine.specs.Enabled.{marked}
use Rattle.engine.specs.Steps.{after}
use Rattle.engine.specs.Judged.{judged, judged_with, judged_beside}
use Rattle.engine.specs.Replay.{enabled_of, enabled_on, next_marking}
use Rattle.engine.specs.declared.marking.Marking.{Marking}
use Rattle.engine.specs.declared.graph.Graph.{Graph}
use Rattle.desk.specs.declared.requests.Opened.{Opened}
use Rattle.desk.specs.Places.{place_count, table_length, is_open, marking_at_place, with_marking, with_place, lowest_free}
use Rattle.desk.specs.Desk.{form_of, on_table, at_place, opening, open_answer, no_place, step_answer, stepped_at, closing_after, closing, close_answer}
use Rattle.desk.proofs.Placing.{open-below, all-taken}

-- ---- judged

pub open-low : (wide : Bool) (table : List ℕ) (p : ℕ) (r : Bool) → r ≡ is_open wide table p → r ≡ true → p < place_count
open-low wide table p r e n = open-below wide table p (true→T (sym (held (is_open wide table p) r e n)))

module _ (m m' : Marking) (same : m ≡ m') where
  pub asked-at : (g : Graph) (a : ℕ) (x : Answer) → x ≡ enabled_of g m a → x ≡ enabled_of g m' a
  asked-at g a x e = e ∙ ap (λ (k : Marking). enabled_of g k a) same

  pub asked-on : (events : Set) (r : Relations) (a : ℕ) (x : Answer) → x ≡ enabled_on events r m a → x ≡ enabled_on events r m' a
  asked-on events r a x e = e ∙ ap (λ (k : Marking). enabled_on events r k a) same

  pub closing_at : (g : Graph) (j x : Answer) → j ≡ judged_with g m → x ≡ closing_after j m → x ≡ closing g m'
  unfolding closing
  closing_at g j x h e = e ∙ ap (λ (k : Answer). closing_after k m) h ∙ ap (λ (k : Marking). closing_after (judged_with g k) k) same

  pub closing-on : (events : Set) (r : Relations) (j x : Answer) → j ≡ judged_beside events r m → x ≡ closing_after j m
      → x ≡ closing_after (judged_beside events r m') m'
  closing-on events r j x h e =
      e ∙ ap (λ (k : Answer). closing_after k m) h ∙ ap (λ (k : Marking). closing_after (judged_beside events r k) k) same

-- ---- served: x is the answer that the definition has, a the one that the code was given

module _ (x a : Answer) (d : Bool) (h : a ≡ x) (k : d ≡ is_done a) where
  pub table_same : (t new : List ℕ) → d ≡ false → t ≡ when is_done x then new else t
  table_same t new n = passed-by (is_done x) new t t (failed (is_done x) d (k ∙ ap is_done h) n) refl

  pub table-new : (t new t' : List ℕ) → d ≡ true → t' ≡ new → t' ≡ when is_done x then new else t
  table-new t new t' n e = taken (is_done x) new t t' (held (is_done x) d (k ∙ ap is_done h) n) e

  pub opened-none : (p : ℕ) → d ≡ false
      → ◌≡◌ {A = Opened} (record { answer = a; place = no_place }) (record { answer = x; place = when is_done x then p else no_place })
  opened-none p n j = record { answer = h j; place = passed-by (is_done x) p no_place no_place (failed (is_done x) d (k ∙ ap is_done h) n) refl j }

  pub opened-at : (p q : ℕ) → d ≡ true → q ≡ p
      → ◌≡◌ {A = Opened} (record { answer = a; place = q }) (record { answer = x; place = when is_done x then p else no_place })
  opened-at p q n e j = record { answer = h j; place = taken (is_done x) p no_place q (held (is_done x) d (k ∙ ap is_done h) n) e j }

-- the marking after a step, put at its place
pub stepped-to : (wide : Bool) (events : Set) (r : Relations) (table table' : List ℕ) (p e : ℕ) (m n : Marking)
    → m ≡ marking_at_place wide table p → n ≡ marked events r (after r m.state e) → table' ≡ with_marking wide table p n
    → table' ≡ stepped_at wide events r table p e
stepped-to wide events r table table' p e m n hm hn ht =
    ht ∙ ap (with_marking wide table p) (hn ∙ ap (λ (k : Marking). marked events r (after r k.state e)) hm)

-- ---- a graph's requests are judged and served in its form

module _ (g : Graph) (wide : Bool) (same : wide ≡ form_of g) (table : List ℕ) (a : Answer) where
  pub open-formed : a ≡ on_table wide table (opening g (is_open wide table)) → a ≡ open_answer g table
  unfolding open_answer
  open-formed e = e ∙ ap (λ (w : Bool). on_table w table (opening g (is_open w table))) same

  pub step-formed : (p e : ℕ) → a ≡ at_place wide table p (enabled_of g (marking_at_place wide table p) e) → a ≡ step_answer g table p e
  unfolding step_answer
  step-formed p e h = h ∙ ap (λ (w : Bool). at_place w table p (enabled_of g (marking_at_place w table p) e)) same

  pub close-formed : (p : ℕ) → a ≡ at_place wide table p (closing g (marking_at_place wide table p)) → a ≡ close_answer g table p
  unfolding close_answer
  close-formed p h = h ∙ ap (λ (w : Bool). at_place w table p (closing g (marking_at_place w table p))) same

module _ (g : Graph) (wide : Bool) (same : wide ≡ form_of g) (table : List ℕ) where
  pub lowest-formed : (n : ℕ) → n ≡ lowest_free (is_open wide table) → n ≡ lowest_free (is_open (form_of g) table)
  lowest-formed n e = e ∙ ap (λ (w : Bool). lowest_free (is_open w table)) same

  pub opened-formed : (table' : List ℕ) (p b : ℕ) (m : Marking) → p ≡ lowest_free (is_open wide table) → table' ≡ with_place wide table p b m
      → table' ≡ with_place (form_of g) table (lowest_free (is_open (form_of g) table)) b m
  opened-formed table' p b m h e = e ∙ (λ i. with_place (same i) table (lowest-formed p h i) b m)

  pub placed-formed : (table' : List ℕ) (p b : ℕ) (m : Marking) → table' ≡ with_place wide table p b m → table' ≡ with_place (form_of g) table p b m
  placed-formed table' p b m e = e ∙ ap (λ (w : Bool). with_place w table p b m) same

  pub stepped-formed : (table' : List ℕ) (p e : ℕ) → table' ≡ stepped_at wide g.head.events (relations_of g) table p e
      → table' ≡ with_marking (form_of g) table p (next_marking g (marking_at_place (form_of g) table p) e)
  stepped-formed table' p e h = h ∙ ap (λ (w : Bool). stepped_at w g.head.events (relations_of g) table p e) same

pub ruleset formed = (open-formed, step-formed, close-formed, lowest-formed, opened-formed, placed-formed, stepped-formed)

-- ---- where a request is done, the table is one and the place is there

module _ (wide : Bool) (table : List ℕ) where
  on-table_lem : (x : Answer) → on_table wide table x ≡ Done → (table_length wide ≤ length table) × (x ≡ Done)
  on-table_lem x = by (ltb (length table) (table_length wide)) refl
    where
      by : (t : Bool) → ltb (length table) (table_length wide) ≡ t → (when t then BufferTooSmall else x) ≡ Done
          → (table_length wide ≤ length table) × (x ≡ Done)
      by true e h = absurd (true→T (ap is_done h))
      by false e h = (ltb-false (length table) (table_length wide) e, h)

  at-place_lem : (p : ℕ) (x : Answer) → (when non (is_open wide table p) then NotOpen else x) ≡ Done → T (is_open wide table p) × (x ≡ Done)
  unfolding non
  at-place_lem p x = by (is_open wide table p)
    where
      by : (t : Bool) → (when non t then NotOpen else x) ≡ Done → T t × (x ≡ Done)
      by true h = (tt, h)
      by false h = absurd (true→T (ap is_done h))

  -- what is done at a place
  place-done : (p : ℕ) (x : Answer) → at_place wide table p x ≡ Done → (table_length wide ≤ length table) × T (is_open wide table p) × (x ≡ Done)
  place-done p x h =
      let on = on-table_lem (when non (is_open wide table p) then NotOpen else x) h in
      let at = at-place_lem p x on.1 in
      (on.0, at.0, at.1)

  left_over : (g : Graph) → on_table wide table (opening g (is_open wide table)) ≡ Done
      → (table_length wide ≤ length table) × (judged g ≡ Done) × (lowest_free (is_open wide table) < place_count)
  unfolding opening non
  left_over g h =
      let on = on-table_lem (opening g (is_open wide table)) h in
      let asked = both (judged g) _ on.1 in
      (on.0, asked.0, by (ltb (lowest_free (is_open wide table)) place_count) refl (all-taken (is_open wide table)) asked.1)
    where
      by : (t : Bool) → ltb (lowest_free (is_open wide table)) place_count ≡ t
          → every_below place_count (is_open wide table) ≡ non (ltb (lowest_free (is_open wide table)) place_count)
          → (when every_below place_count (is_open wide table) then NoPlaceFree else Done) ≡ Done → lowest_free (is_open wide table) < place_count
      by true e all h = ltb-true (lowest_free (is_open wide table)) place_count e
      by false e all h = absurd (true→T (ap is_done (ap (λ (t : Bool). when t then NoPlaceFree else Done) (sym (all ∙ ap non e)) ∙ h)))

  module _ (a : Answer) (d : Bool) (k : d ≡ is_done a) (n : d ≡ true) (p : ℕ) (x : Answer) (h : a ≡ at_place wide table p x) where
    gone : at_place wide table p x ≡ Done
    gone = sym h ∙ done-is a (sym (held (is_done a) d k n))

    -- of all that is asked at a place
    pub place-long : table_length wide ≤ length table
    place-long = (place-done p x gone).0

    pub place-there : p < place_count
    place-there = open-below wide table p (place-done p x gone).1

-- of a graph's requests
module _ (table : List ℕ) (g : Graph) where
  pub open_done : open_answer g table ≡ Done → (table_length (form_of g) ≤ length table) × (lowest_free (is_open (form_of g) table) < place_count)
  unfolding open_answer
  open_done h = let all = left_over (form_of g) table g h in (all.0, all.2)

  -- and the graph was accepted
  pub open-accepted : open_answer g table ≡ Done → judged g ≡ Done
  unfolding open_answer
  open-accepted h = (left_over (form_of g) table g h).1

  pub step-done : (p a : ℕ) → step_answer g table p a ≡ Done → (table_length (form_of g) ≤ length table) × T (is_open (form_of g) table p)
  unfolding step_answer
  step-done p a h = let all = place-done (form_of g) table p (enabled_of g (marking_at_place (form_of g) table p) a) h in (all.0, all.1)

  -- and the engine said yes
  pub step-enabled : (p a : ℕ) → step_answer g table p a ≡ Done → enabled_of g (marking_at_place (form_of g) table p) a ≡ Done
  unfolding step_answer
  step-enabled p a h = (place-done (form_of g) table p (enabled_of g (marking_at_place (form_of g) table p) a) h).2

  pub close-done : (p : ℕ) → close_answer g table p ≡ Done → (table_length (form_of g) ≤ length table) × T (is_open (form_of g) table p)
  unfolding close_answer
  close-done p h = let all = place-done (form_of g) table p (closing g (marking_at_place (form_of g) table p)) h in (all.0, all.1)
