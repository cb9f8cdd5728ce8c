-- 02, 5/12, THE CALL DESK, as theorems about the public functions. Assumes nothing.
--
-- `OpenGives g table r table'` says that open, by its own contract, may give r and leave table', on the graph g and a table that holds these
-- bytes; `StepGives` and `CloseGives` the same. `is_open wide table p` and `marking_at_place wide table p` read the bytes (desk/specs/Places) in
-- the form `form_of g` that the file of the graph has (10/12).
--
-- 1. One outcome, of answer, place and the whole table: Outcomes (`desk-open-once`, `desk-step-once`, `desk-close-once`). A refusal leaves the
--    whole table as before: `open-refused`, `step-refused`, `close-refused`.
-- 2. Isolation, over every history of requests that was served from a fresh desk (`Served`): `step-isolated`, `close-isolated`: the answer is the
--    one computed from the graph and the place's own call alone (`step_by`, `close_by`), that is from the steps taken there since its own
--    opening (`call_at`; desk/specs/Histories has no bytes). So histories that agree there agree in the answer (`step-agrees`, `close-agrees`).
--    And on any table at all a request at another place never shows: `..-elsewhere`.
-- 3. Open gives the lowest free place (`open-lowest`), only the graph's refusal and the open places decide (`open-decided`, and over histories
--    `open-by-calls`), and 13 is given exactly where the graph is accepted and all 32 are taken (`open-13`, `open_full`).
-- 4. A freed place is free and holds the empty marking (`close-frees`); an opened one, for the first time or again, holds the opening state
--    (`open-opens`).
use mathlib.Core.Path.{◌≡◌, refl, sym, ap, subst, ◌∙◌}
use mathlib.Core.Bool.{Bool, true, false}
use mathlib.Core.Logic.{◌≢◌}
use mathlib.Core.List.{List, [], ◌∷◌}
use Prim.Native.Nat.{ℕ, ◌≤◌, ◌<◌}
use lib.Dec.{eqb}
use lib.ListN.{length}
use Rattle.sets.specs.Tests.{when◌then◌else◌}
use Rattle.sets.specs.Answers.{number_of, is_done}
use Rattle.sets.specs.declared.answer.Answer.{Answer}
use Rattle.sets.specs.declared.answer.Answer.TheVariants.{Done, NoPlaceFree}
use Rattle.sets.proofs.Tests.{T→true, F→false}
use Rattle.sets.proofs.Asking.{done-is}
use Rattle.engine.specs.Markings.{empty_marking}
use Rattle.engine.specs.Judged.{judged}
use Rattle.engine.specs.declared.graph.Graph.{Graph}
use Rattle.graphfile.proofs.LoneMarkings.{WholeMarking}
use Rattle.desk.specs.declared.requests.Opened.{Opened}
use Rattle.desk.specs.Places.{place_count, table_length, is_open, marking_at_place, SameAt, lowest_free}
use Rattle.desk.specs.Desk.{form_of, opening, open_answer, no_place, opened_of, table_opened, step_answer, table_stepped, close_answer, table_closed}
use Rattle.desk.specs.Histories.{Request, Open, Step, Close, Fresh, Call, is_taken, table_served, table_after, step_by, close_by, call_at}
use Rattle.desk.proofs.Isolation.{step-own, close-own, open_own, lowest-own}
use Rattle.desk.proofs.OnePlace.{step_same, close-same, opened-elsewhere, stepped-elsewhere, closed-elsewhere}
use Rattle.desk.proofs.OnePlace.{lowest-free_lem, lower-taken, opened-place, opened-marking, closed-place, closed-marking, full-13, 13-full, opened-ext}
use Rattle.desk.proofs.Serving.{open_done}
use Rattle.desk.proofs.requests.open.Reads as opens
use Rattle.desk.proofs.requests.step.Reads as steps
use Rattle.desk.proofs.requests.close.Reads as closes
use Rattle.promises.proofs.Contracts.{Leaves, Holding, Lending}

-- ================ WHAT THE FUNCTIONS MAY GIVE

module _ (g : Graph) (before : List ℕ) where
  abbrev pub OpenGives : Opened → List ℕ → Type 0
  OpenGives r after =
      Holding g.relations (λ relations. Lending before (λ table. Leaves opens.Post (λ κ s. s.1.1.0.now)
      (λ κ. (g.head, (relations, (table, tt)))) (λ κ. r) after))

  pub open_said : (r : Opened) (after : List ℕ) → OpenGives r after → (r ≡ opened_of g before) × (after ≡ table_opened g before)
  open_said r after h =
      let d = h.2.2 in (
        d.3.0 ∙ (λ j. opened_of (record { head = g.head; relations = h.1 j }) (h.2.1 j)),
        sym d.2 ∙ d.3.1 ∙ (λ j. table_opened (record { head = g.head; relations = h.1 j }) (h.2.1 j)),
      )

  module _ (p : ℕ) where
    abbrev pub StepGives : ℕ → Answer → List ℕ → Type 0
    StepGives a x after =
        Holding g.relations (λ relations. Lending before (λ table. Leaves steps.Post (λ κ s. s.1.1.0.now)
        (λ κ. (g.head, (relations, (table, (p, (record { 0 = a }, tt)))))) (λ κ. x) after))

    pub step-said : (a : ℕ) (x : Answer) (after : List ℕ) → StepGives a x after
        → (x ≡ step_answer g before p a) × (after ≡ table_stepped g before p a)
    step-said a x after h =
        let d = h.2.2 in (
          d.3.0 ∙ (λ j. step_answer (record { head = g.head; relations = h.1 j }) (h.2.1 j) p a),
          sym d.2 ∙ d.3.1 ∙ (λ j. table_stepped (record { head = g.head; relations = h.1 j }) (h.2.1 j) p a),
        )

    abbrev pub CloseGives : Answer → List ℕ → Type 0
    CloseGives x after =
        Holding g.relations (λ relations. Lending before (λ table. Leaves closes.Post (λ κ s. s.1.1.0.now)
        (λ κ. (g.head, (relations, (table, (p, tt))))) (λ κ. x) after))

    pub close-said : (x : Answer) (after : List ℕ) → CloseGives x after → (x ≡ close_answer g before p) × (after ≡ table_closed g before p)
    close-said x after h =
        let d = h.2.2 in (
          d.3.0 ∙ (λ j. close_answer (record { head = g.head; relations = h.1 j }) (h.2.1 j) p),
          sym d.2 ∙ d.3.1 ∙ (λ j. table_closed (record { head = g.head; relations = h.1 j }) (h.2.1 j) p),
        )

-- 0 is the number of done alone
done-by : (a : Answer) → number_of a ≡ 0 → a ≡ Done
done-by a h = done-is a (ap (λ (n : ℕ). eqb n 0) h)

-- ================ 1. A REFUSAL LEAVES THE WHOLE TABLE AS BEFORE

refused-by : (x : Answer) → number_of x ≢ 0 → is_done x ≡ false
refused-by x n = F→false (is_done x) (λ d. n (ap number_of (done-is x (T→true (is_done x) d))))

kept : (x : Answer) (new table : List ℕ) → number_of x ≢ 0 → (when is_done x then new else table) ≡ table
kept x new table n = ap (λ (t : Bool). when t then new else table) (refused-by x n)

module _ (g : Graph) (before after : List ℕ) where
  pub open-refused : (r : Opened) → OpenGives g before r after → number_of r.answer ≢ 0 → (after ≡ before) × (r.place ≡ no_place)
  unfolding opened_of table_opened
  open-refused r c n =
      let s = open_said g before r after c in
      let m : number_of (open_answer g before) ≢ 0 = λ e. n (ap (λ (x : Opened). number_of x.answer) s.0 ∙ e) in (
        s.1 ∙ kept (open_answer g before) _ before m,
        ap (λ (x : Opened). x.place) s.0
            ∙ ap (λ (t : Bool). when t then lowest_free (is_open (form_of g) before) else no_place) (refused-by (open_answer g before) m),
      )

  pub step-refused : (p a : ℕ) (x : Answer) → StepGives g before p a x after → number_of x ≢ 0 → after ≡ before
  unfolding table_stepped
  step-refused p a x c n =
      let s = step-said g before p a x after c in
      s.1 ∙ kept (step_answer g before p a) _ before (λ e. n (ap number_of s.0 ∙ e))

  pub close-refused : (p : ℕ) (x : Answer) → CloseGives g before p x after → number_of x ≢ 0 → after ≡ before
  unfolding table_closed
  close-refused p x c n =
      let s = close-said g before p x after c in
      s.1 ∙ kept (close_answer g before p) _ before (λ e. n (ap number_of s.0 ∙ e))

-- ================ 2. ISOLATION

-- the functions served these requests, the latest first, from a fresh desk on, and left this table
abbrev pub Served : Graph → List Request → List ℕ → Type 0
Served g [] table = Fresh (form_of g) table
Served g (Open ∷ history) after = (before : List ℕ) × Served g history before × ((r : Opened) × OpenGives g before r after)
Served g (Step p a ∷ history) after = (before : List ℕ) × Served g history before × ((x : Answer) × StepGives g before p a x after)
Served g (Close p ∷ history) after = (before : List ℕ) × Served g history before × ((x : Answer) × CloseGives g before p x after)

-- that is the table after the history
pub served : (g : Graph) (history : List Request) (table : List ℕ) → Served g history table
    → (first : List ℕ) × Fresh (form_of g) first × (table ≡ table_after g first history)
unfolding table_after table_served
served g [] table h = (table, h, refl)
served g (Open ∷ history) table h =
    let r = served g history h.0 h.1 in
    (r.0, r.1, (open_said g h.0 h.2.0 table h.2.1).1 ∙ ap (table_opened g) r.2)
served g (Step p a ∷ history) table h =
    let r = served g history h.0 h.1 in
    (r.0, r.1, (step-said g h.0 p a h.2.0 table h.2.1).1 ∙ ap (λ (t : List ℕ). table_stepped g t p a) r.2)
served g (Close p ∷ history) table h =
    let r = served g history h.0 h.1 in
    (r.0, r.1, (close-said g h.0 p h.2.0 table h.2.1).1 ∙ ap (λ (t : List ℕ). table_closed g t p) r.2)

-- `WholeMarking` says that the opening marking's numbers fit their places in memory, as those of every marking of the code do
module _ (g : Graph) (whole : WholeMarking g.head.opening) where
  module _ (history : List Request) (table : List ℕ) (h : Served g history table) (p : ℕ) where
    -- what step answers at a place is what the graph and the place's own call say
    pub step-isolated : (a : ℕ) (x : Answer) (after : List ℕ) → StepGives g table p a x after → x ≡ step_by g (call_at g history p) a
    step-isolated a x after c =
        let r = served g history table h in
        (step-said g table p a x after c).0
        ∙ ap (λ (t : List ℕ). step_answer g t p a) r.2
        ∙ step-own g whole r.0 r.1 history p a

    -- and what close answers
    pub close-isolated : (x : Answer) (after : List ℕ) → CloseGives g table p x after → x ≡ close_by g (call_at g history p)
    close-isolated x after c =
        let r = served g history table h in
        (close-said g table p x after c).0
        ∙ ap (λ (t : List ℕ). close_answer g t p) r.2
        ∙ close-own g whole r.0 r.1 history p

  -- two histories that agree on the call at a place agree in what is answered there
  module _ (history history' : List Request) (table table' : List ℕ) (h : Served g history table) (h' : Served g history' table')
      (p : ℕ) (agree : call_at g history p ≡ call_at g history' p) where
    pub step-agrees : (a : ℕ) (x x' : Answer) (after after' : List ℕ) → StepGives g table p a x after → StepGives g table' p a x' after' → x ≡ x'
    step-agrees a x x' after after' c c' =
        step-isolated history table h p a x after c
        ∙ ap (λ (k : Call). step_by g k a) agree
        ∙ sym (step-isolated history' table' h' p a x' after' c')

    pub close-agrees : (x x' : Answer) (after after' : List ℕ) → CloseGives g table p x after → CloseGives g table' p x' after' → x ≡ x'
    close-agrees x x' after after' c c' =
        close-isolated history table h p x after c
        ∙ ap (close_by g) agree
        ∙ sym (close-isolated history' table' h' p x' after' c')

  -- open is answered by which places have a call, and gives the lowest that has none
  pub open-by-calls : (history : List Request) (table : List ℕ) → Served g history table → (r : Opened) (after : List ℕ) → OpenGives g table r after
      → (r.answer ≡ opening g (λ p. is_taken (call_at g history p)))
      × (number_of r.answer ≡ 0 → r.place ≡ lowest_free (λ p. is_taken (call_at g history p)))
  unfolding opened_of
  open-by-calls history table h r after c =
      let s = open_said g table r after c in
      let f = served g history table h in
      let answered : r.answer ≡ open_answer g table = ap (λ (x : Opened). x.answer) s.0 in (
        answered ∙ ap (open_answer g) f.2 ∙ open_own g whole f.0 f.1 history,
        λ n.
            ap (λ (x : Opened). x.place) s.0
            ∙ ap (λ (t : Bool). when t then lowest_free (is_open (form_of g) table) else no_place) (ap is_done (sym answered ∙ done-by r.answer n))
            ∙ ap (λ (t : List ℕ). lowest_free (is_open (form_of g) t)) f.2
            ∙ lowest-own g whole f.0 f.1 history,
      )

-- ---- a request at another place never shows, on any table

module _ (g : Graph) (p : ℕ) (before after : List ℕ) where
  pub open-elsewhere : (r : Opened) → OpenGives g before r after → r.place ≢ p → SameAt (form_of g) p before after
  open-elsewhere r c n =
      let s = open_said g before r after c in
      subst (SameAt (form_of g) p before) (sym s.1) (opened-elsewhere g before p (λ e. n (ap (λ (x : Opened). x.place) s.0 ∙ e)))

  pub step-elsewhere : (q a : ℕ) (x : Answer) → StepGives g before q a x after → q ≢ p → SameAt (form_of g) p before after
  step-elsewhere q a x c n = subst (SameAt (form_of g) p before) (sym (step-said g before q a x after c).1) (stepped-elsewhere g before p q a n)

  pub close-elsewhere : (q : ℕ) (x : Answer) → CloseGives g before q x after → q ≢ p → SameAt (form_of g) p before after
  close-elsewhere q x c n = subst (SameAt (form_of g) p before) (sym (close-said g before q x after c).1) (closed-elsewhere g before p q n)

  -- and tables that are the same at a place get the same answers there
  module _ (same : SameAt (form_of g) p before after) where
    pub step-unmoved : (a : ℕ) (x y : Answer) (t u : List ℕ) → StepGives g before p a x t → StepGives g after p a y u → x ≡ y
    step-unmoved a x y t u c d =
        (step-said g before p a x t c).0 ∙ sym (step_same g p before after same a) ∙ sym (step-said g after p a y u d).0

    pub close-unmoved : (x y : Answer) (t u : List ℕ) → CloseGives g before p x t → CloseGives g after p y u → x ≡ y
    close-unmoved x y t u c d =
        (close-said g before p x t c).0 ∙ sym (close-same g p before after same) ∙ sym (close-said g after p y u d).0

-- ================ 3. OPEN

module _ (g : Graph) (before : List ℕ) (r : Opened) (after : List ℕ) (c : OpenGives g before r after) where
  answered : r.answer ≡ open_answer g before
  unfolding opened_of
  answered = ap (λ (x : Opened). x.answer) (open_said g before r after c).0

  given : number_of r.answer ≡ 0 → r.place ≡ lowest_free (is_open (form_of g) before)
  unfolding opened_of
  given n =
      ap (λ (x : Opened). x.place) (open_said g before r after c).0
      ∙ ap (λ (t : Bool). when t then lowest_free (is_open (form_of g) before) else no_place) (ap is_done (sym answered ∙ done-by r.answer n))

  -- the place is one of the 32, it was free, and every lower one was taken
  pub open-lowest : number_of r.answer ≡ 0
      → (r.place < place_count) × (is_open (form_of g) before r.place ≡ false) × ((q : ℕ) → q < r.place → is_open (form_of g) before q ≡ true)
  open-lowest n =
      let d : open_answer g before ≡ Done = sym answered ∙ done-by r.answer n in (
        subst (λ (p : ℕ). p < place_count) (sym (given n)) (open_done before g d).1,
        subst (λ (p : ℕ). is_open (form_of g) before p ≡ false) (sym (given n)) (lowest-free_lem g before d),
        λ q l. lower-taken g before q (subst (λ (p : ℕ). q < p) (given n) l),
      )

  -- 13 is given exactly where the graph is accepted and all 32 are taken
  pub open-13 : r.answer ≡ NoPlaceFree → (table_length (form_of g) ≤ length before) × (judged g ≡ Done) × ((p : ℕ) → p < place_count → is_open (form_of g) before p ≡ true)
  open-13 e = 13-full g before (sym answered ∙ e)

  pub open_full : table_length (form_of g) ≤ length before → judged g ≡ Done → ((p : ℕ) → p < place_count → is_open (form_of g) before p ≡ true) → r.answer ≡ NoPlaceFree
  open_full long accepted all = answered ∙ full-13 g before long accepted all

  -- ================ 4. OPENED AND FREED

  pub open-opens : WholeMarking g.head.opening → number_of r.answer ≡ 0
      → (is_open (form_of g) after r.place ≡ true) × (marking_at_place (form_of g) after r.place ≡ g.head.opening)
  open-opens whole n =
      let s = (open_said g before r after c).1 in
      let d : open_answer g before ≡ Done = sym answered ∙ done-by r.answer n in (
        (λ j. is_open (form_of g) (s j) (given n j)) ∙ opened-place g before d,
        (λ j. marking_at_place (form_of g) (s j) (given n j)) ∙ opened-marking g before whole d,
      )

-- only the graph's refusal and the open places decide what open gives
pub open-decided : (g : Graph) (table table' : List ℕ) → table_length (form_of g) ≤ length table → table_length (form_of g) ≤ length table'
    → ((p : ℕ) → is_open (form_of g) table p ≡ is_open (form_of g) table' p) → (r r' : Opened) (after after' : List ℕ)
    → OpenGives g table r after → OpenGives g table' r' after' → r ≡ r'
open-decided g table table' long long' same r r' after after' c c' =
    (open_said g table r after c).0 ∙ opened-ext g table table' long long' same ∙ sym (open_said g table' r' after' c').0

pub close-frees : (g : Graph) (before : List ℕ) (p : ℕ) (x : Answer) (after : List ℕ) → CloseGives g before p x after → number_of x ≡ 0
    → (is_open (form_of g) after p ≡ false) × (marking_at_place (form_of g) after p ≡ empty_marking)
close-frees g before p x after c n =
    let s = close-said g before p x after c in
    let d : close_answer g before p ≡ Done = sym s.0 ∙ done-by x n in (
      ap (λ (t : List ℕ). is_open (form_of g) t p) s.1 ∙ closed-place g before p d,
      ap (λ (t : List ℕ). marking_at_place (form_of g) t p) s.1 ∙ closed-marking g before p d,
    )
