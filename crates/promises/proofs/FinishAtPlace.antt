-- 02, 8/12: the way out of the call at a place of the desk ("It works on markings from the file or from the desk"). `PlaceGives g table p f`
-- says that the desk's finish may give f, by its own contract. The table is lent to be read, so nothing lent can change. Assumes nothing.
--
-- 1. 7 where the bytes are too few for a table (`place-7`); then 14 exactly where the place is not open (`place-14`, `14-place`).
-- 2. At an open place it is what `finish` gives at the place's own marking (`place-finishes`), so all that Finish promises holds there too.
-- 3. Isolation, as step and close have it (Desk): after every history from a fresh desk the place's own call alone decides (`finish-isolated`,
--    `finish-agrees`), with 14 exactly where there is none (`none-14`, `14-none`); tables that are the same at a place get the same (`finish-unmoved`).
use mathlib.Core.Path.{◌≡◌, refl, sym, ap, ap₂, subst, ◌∙◌}
use mathlib.Core.Bool.{Bool, true, false}
use mathlib.Core.List.{List, []}
use Prim.Native.Nat.{ℕ, ◌≤◌, ◌<◌}
use borrow.Author.Tests.{lt-ltb, le-ltb, ltb-false}
use lib.Dec.{T, eqb, ltb}
use lib.ListN.{length}
use Rattle.sets.specs.Tests.{non, when◌then◌else◌}
use Rattle.sets.specs.Answers.{number_of, is_done}
use Rattle.sets.specs.declared.answer.Answer.{Answer}
use Rattle.sets.specs.declared.answer.Answer.TheVariants.{Done, BufferTooSmall, NotOpen, NoWayOut}
use Rattle.sets.proofs.Tests.{true→T}
use Rattle.engine.specs.Relations.{relations_of}
use Rattle.engine.specs.Judged.{judged_with}
use Rattle.engine.proofs.Judging.{found-one}
use Rattle.engine.specs.declared.marking.Marking.{Marking}
use Rattle.engine.specs.declared.graph.Graph.{Graph}
use Rattle.graphfile.proofs.LoneMarkings.{WholeMarking}
use Rattle.finish.specs.Ways.{most_steps, way_of, fewest, finished_by, shortest_of, finish_of}
use Rattle.finish.specs.declared.search.Finished.{Finished}
use Rattle.desk.specs.Places.{table_length, is_open, marking_at_place, SameAt}
use Rattle.desk.specs.Desk.{form_of}
use Rattle.desk.specs.Histories.{Request, Call, none, since, call_at}
use Rattle.desk.specs.WayOut.{finished_at, finish_by}
use Rattle.desk.proofs.WayOut.{finish-same, finish-own}
use Rattle.desk.proofs.way.finish.Reads as desk-finish
use Rattle.promises.proofs.Contracts.{Gives, Holding}
use Rattle.promises.proofs.Desk.{Served, served}
use Rattle.promises.proofs.Finish.{FinishGives}

abbrev pub PlaceGives : Graph → List ℕ → ℕ → Finished → Type 0
PlaceGives g table p f =
    Holding g.relations (λ relations. Holding table (λ bytes. Gives desk-finish.Post (λ κ. (g.head, (relations, (bytes, (p, tt))))) (λ κ. f)))

pub place-said : (g : Graph) (table : List ℕ) (p : ℕ) (f : Finished) → PlaceGives g table p f → f ≡ finished_at g table p
place-said g table p f h =
    h.2.2.2 ∙ (λ j. finished_at (record { head = g.head; relations = h.1 j }) (h.2.1 j) p)

-- ---- a search never gives 14

abbrev Is14 : Finished → Type 0
Is14 f = T (eqb (number_of f.answer) 14)

is-14 : (f : Finished) → number_of f.answer ≡ 14 → Is14 f
is-14 f e = true→T (ap (λ (n : ℕ). eqb n 14) e)

never-14 : (g : Graph) (m : Marking) → Is14 (finish_of g m) → ⊥
unfolding finish_of shortest_of judged_with
never-14 g m = by (is_done (judged_with g m)) (ltb most_steps (fewest g.head.events (relations_of g) m.state))
  where
    found : Bool → Finished
    found lost =
        when lost then finished_by NoWayOut []
        else finished_by Done (way_of g.head.events (relations_of g) (fewest g.head.events (relations_of g) m.state) m.state)

    by : (done lost : Bool) → Is14 (when done then found lost else finished_by (judged_with g m) []) → ⊥
    by true true = λ h. h
    by true false = λ h. h
    by false lost = found-one _ _ _ (λ (a : Answer). T (eqb (number_of a) 14) → ⊥) (λ h. h) (λ h. h) (λ h. h) (λ h. h)

module _ (g : Graph) (table : List ℕ) (p : ℕ) (f : Finished) (c : PlaceGives g table p f) where
  by-tests_lem : (short there : Bool) → ltb (length table) (table_length (form_of g)) ≡ short → is_open (form_of g) table p ≡ there
      → f ≡ (when short then finished_by BufferTooSmall [] else when non there then finished_by NotOpen [] else finish_of g (marking_at_place (form_of g) table p))
  unfolding finished_at
  by-tests_lem short there s o =
      place-said g table p f c
      ∙ ap₂ (λ (x y : Bool). when x then finished_by BufferTooSmall [] else when non y then finished_by NotOpen [] else finish_of g (marking_at_place (form_of g) table p)) s o

  -- ================ 1. 7, THEN 14 EXACTLY WHERE THE PLACE IS NOT OPEN

  pub place-7 : length table < table_length (form_of g) → f ≡ finished_by BufferTooSmall []
  place-7 l = by-tests_lem true (is_open (form_of g) table p) (lt-ltb (length table) (table_length (form_of g)) l) refl

  module _ (long : table_length (form_of g) ≤ length table) where
    pub place-14 : is_open (form_of g) table p ≡ false → f ≡ finished_by NotOpen []
    unfolding non
    place-14 e = by-tests_lem false false (le-ltb (length table) (table_length (form_of g)) long) e

    -- ================ 2. AT AN OPEN PLACE, WHAT FINISH GIVES AT ITS MARKING

    pub place-finishes : is_open (form_of g) table p ≡ true → FinishGives g (marking_at_place (form_of g) table p) f
    unfolding non
    place-finishes e = (tt, (g, (marking_at_place (form_of g) table p, tt)), by-tests_lem false true (le-ltb (length table) (table_length (form_of g)) long) e)

  pub 14-place : number_of f.answer ≡ 14 → (table_length (form_of g) ≤ length table) × (is_open (form_of g) table p ≡ false)
  unfolding non
  14-place e = by (ltb (length table) (table_length (form_of g))) (is_open (form_of g) table p) refl refl
    where
      by : (short there : Bool) → ltb (length table) (table_length (form_of g)) ≡ short → is_open (form_of g) table p ≡ there
          → (table_length (form_of g) ≤ length table) × (is_open (form_of g) table p ≡ false)
      by true there s o = absurd (subst Is14 (by-tests_lem true there s o) (is-14 f e))
      by false true s o = absurd (never-14 g (marking_at_place (form_of g) table p) (subst Is14 (by-tests_lem false true s o) (is-14 f e)))
      by false false s o = (ltb-false (length table) (table_length (form_of g)) s, o)

-- ================ 3. ISOLATION

module _ (g : Graph) (whole : WholeMarking g.head.opening) where
  module _ (history : List Request) (table : List ℕ) (h : Served g history table) (p : ℕ) (f : Finished) (c : PlaceGives g table p f) where
    -- what is given at a place is what the graph and the place's own call say
    pub finish-isolated : f ≡ finish_by g (call_at g history p)
    finish-isolated =
        let r = served g history table h in
        place-said g table p f c ∙ ap (λ (t : List ℕ). finished_at g t p) r.2 ∙ finish-own g whole r.0 r.1 history p

    pub none-14 : call_at g history p ≡ none → f ≡ finished_by NotOpen []
    unfolding finish_by
    none-14 e = finish-isolated ∙ ap (finish_by g) e

    pub 14-none : number_of f.answer ≡ 14 → call_at g history p ≡ none
    unfolding finish_by
    14-none e = by (call_at g history p) (subst Is14 finish-isolated (is-14 f e))
      where
        by : (k : Call) → Is14 (finish_by g k) → k ≡ none
        by none t = refl
        by (since past) t = absurd (never-14 g _ t)

  -- two histories that agree on the call at a place agree in its way out
  pub finish-agrees : (history history' : List Request) (table table' : List ℕ) → Served g history table → Served g history' table'
      → (p : ℕ) → call_at g history p ≡ call_at g history' p → (f f' : Finished) → PlaceGives g table p f → PlaceGives g table' p f' → f ≡ f'
  finish-agrees history history' table table' h h' p agree f f' c c' =
      finish-isolated history table h p f c ∙ ap (finish_by g) agree ∙ sym (finish-isolated history' table' h' p f' c')

-- so a request at another place (Desk, `..-elsewhere`) never shows
pub finish-unmoved : (g : Graph) (p : ℕ) (before after : List ℕ) → SameAt (form_of g) p before after → (f f' : Finished)
    → PlaceGives g before p f → PlaceGives g after p f' → f ≡ f'
finish-unmoved g p before after same f f' c c' =
    place-said g before p f c ∙ sym (finish-same g p before after same) ∙ sym (place-said g after p f' c')
