-- One request on any table: what shows at its own place, and that nothing shows at another. Assumes nothing.
use mathlib.Core.Path.{◌≡◌, refl, sym, ap, subst, ◌∙◌}
use mathlib.Core.Bool.{Bool, true, false}
use mathlib.Core.Logic.{◌≢◌}
use mathlib.Core.List.{List}
use Prim.Native.Nat.{ℕ, ◌≤◌, ◌<◌}
use native.Mathlib.Omega.{arith}
use borrow.Author.Tests.{le-ltb, ltb-true, ltb-false}
use lib.Dec.{T, eqb, ltb}
use lib.ListN.{length, get_or, replicate, length-replicate, get_or-replicate}
use Rattle.sets.specs.Tests.{◌and◌, non, when◌then◌else◌}
use Rattle.sets.specs.Members.{every_below}
use Rattle.sets.specs.Answers.{number_of, is_done, then_ask}
use Rattle.sets.specs.declared.answer.Answer.{Answer}
use Rattle.sets.specs.declared.answer.Answer.TheVariants.{Done, BufferTooSmall, NoPlaceFree, NotOpen}
use Rattle.sets.proofs.Tests.{T→true, true→T, F→false, false→F, non-e, non-false}
use Rattle.sets.proofs.Below.{every-i, every-e, least-is, least-before}
use Rattle.sets.proofs.Asking.{done-is, ask-on, ask-stop}
use Rattle.engine.specs.Markings.{empty_marking}
use Rattle.engine.specs.Judged.{judged_for, judged}
use Rattle.engine.proofs.Judging.{found-one}
use Rattle.engine.specs.Replay.{enabled_of, next_marking}
use Rattle.engine.specs.declared.marking.Marking.{Marking}
use Rattle.engine.specs.declared.graph.Graph.{Graph}
use Rattle.graphfile.proofs.LoneMarkings.{WholeMarking}
use Rattle.graphfile.proofs.WithinForm.{empty-held}
use Rattle.desk.specs.Places.{place_count, place_start, table_length, is_open, marking_at_place, SameAt, with_marking, with_place, lowest_free}
use Rattle.desk.specs.Desk.{form_of, opening, open_answer, no_place, opened_of, table_opened, step_answer, table_stepped, closing, close_answer, table_closed}
use Rattle.desk.specs.Histories.{Fresh}
use Rattle.desk.proofs.Placing.{place-room, open-below, open_kept, marking-kept, marking-same, length_marked, length-placed, placed-open, placed-marking, else-open, else-marking}
use Rattle.desk.proofs.Serving.{open_done, open-accepted, step-done, step-enabled, close-done}
use Rattle.desk.proofs.Keeping.{whole-empty, whole-next, opening-held, next-held}
use Rattle.desk.proofs.Isolation.{opening-ext, lowest-ext}

-- ---- a table of zeros is fresh

pub fresh-zeros : (wide : Bool) (n : ℕ) → table_length wide ≤ n → Fresh wide (replicate n 0)
unfolding is_open ◌and◌ non
fresh-zeros wide n l = record { long = subst (λ (k : ℕ). table_length wide ≤ k) (sym (length-replicate n 0)) l; free = λ p. by p (ltb p place_count) refl }
  where
    by : (p : ℕ) (t : Bool) → ltb p place_count ≡ t → (t and non (eqb (get_or (replicate n 0) (place_start wide p) 0) 0)) ≡ false
    by p false e = refl
    by p true e =
        let low = ltb-true p place_count e in
        ap (λ (x : ℕ). non (eqb x 0)) (get_or-replicate n (place_start wide p) 0 0 (omega (arith, place-room wide p low)))

-- ---- elsewhere

module _ (g : Graph) where
  abbrev form : Bool
  form = form_of g

  module _ (p : ℕ) (table table' : List ℕ) (same : SameAt form p table table') where
    pub step_same : (a : ℕ) → step_answer g table' p a ≡ step_answer g table p a
    unfolding step_answer
    step_same a i =
        when ltb (same.long i) (table_length form) then BufferTooSmall
        else when non (same.opens i) then NotOpen
        else enabled_of g (same.marking i) a

    pub close-same : close_answer g table' p ≡ close_answer g table p
    unfolding close_answer
    close-same i =
        when ltb (same.long i) (table_length form) then BufferTooSmall else when non (same.opens i) then NotOpen else closing g (same.marking i)

  module _ (table : List ℕ) (p : ℕ) where
    same_or : (done : Bool) (new : List ℕ) → SameAt form p table new → SameAt form p table (when done then new else table)
    same_or true new s = s
    same_or false new s = record { long = refl; opens = refl; marking = refl }

    else-placed : (q b : ℕ) (m : Marking) → q ≢ p → SameAt form p table (with_place form table q b m)
    else-placed q b m n =
        record { long = length-placed form table q b m; opens = else-open form table q b m p n; marking = else-marking form table q b m p n }

    pub opened-elsewhere : (opened_of g table).place ≢ p → SameAt form p table (table_opened g table)
    unfolding opened_of table_opened
    opened-elsewhere = by (is_done (open_answer g table))
      where
        by : (done : Bool) → (when done then lowest_free (is_open form table) else no_place) ≢ p
            → SameAt form p table (when done then with_place form table (lowest_free (is_open form table)) 1 g.head.opening else table)
        by true n = else-placed (lowest_free (is_open form table)) 1 g.head.opening n
        by false n = record { long = refl; opens = refl; marking = refl }

    pub stepped-elsewhere : (q a : ℕ) → q ≢ p → SameAt form p table (table_stepped g table q a)
    unfolding table_stepped
    stepped-elsewhere q a n =
        let new = next_marking g (marking_at_place form table q) a in
        same_or (is_done (step_answer g table q a)) (with_marking form table q new)
        (record { long = length_marked form table q new; opens = open_kept form table q p new; marking = marking-kept form table q p new n })

    pub closed-elsewhere : (q : ℕ) → q ≢ p → SameAt form p table (table_closed g table q)
    unfolding table_closed
    closed-elsewhere q n = same_or (is_done (close_answer g table q)) (with_place form table q 0 empty_marking) (else-placed q 0 empty_marking n)

  -- ---- open

  -- on tables with the same open places it gives the same
  pub opened-ext : (table table' : List ℕ) → table_length form ≤ length table → table_length form ≤ length table'
      → ((p : ℕ) → is_open form table p ≡ is_open form table' p) → opened_of g table ≡ opened_of g table'
  unfolding opened_of open_answer
  opened-ext table table' long long' same i =
      record { answer = answers i; place = when is_done (answers i) then lowest-ext (is_open form table) (is_open form table') same i else no_place }
    where
      answers : open_answer g table ≡ open_answer g table'
      answers =
          ap (λ (t : Bool). when t then BufferTooSmall else opening g (is_open form table)) (le-ltb (length table) (table_length form) long)
          ∙ opening-ext g (is_open form table) (is_open form table') same
          ∙ sym (ap (λ (t : Bool). when t then BufferTooSmall else opening g (is_open form table')) (le-ltb (length table') (table_length form) long'))

  module _ (table : List ℕ) where
    abbrev lowest : ℕ
    lowest = lowest_free (is_open form table)

    pub lowest-free_lem : open_answer g table ≡ Done → is_open form table (lowest_free (is_open form table)) ≡ false
    unfolding lowest_free
    lowest-free_lem d =
        F→false _ (non-e _ (least-is place_count (λ p. non (is_open form table p)) (open_done table g d).1))

    pub lower-taken : (q : ℕ) → q < lowest_free (is_open form table) → is_open form table q ≡ true
    unfolding lowest_free
    lower-taken q l = T→true _ (non-false (is_open form table q) (least-before place_count (λ p. non (is_open form table p)) q l))

    -- the place is open, at the opening state
    pub opened-place : open_answer g table ≡ Done → is_open form (table_opened g table) (lowest_free (is_open form table)) ≡ true
    unfolding table_opened non
    opened-place d =
        ap (λ (t : Bool). is_open form (when t then with_place form table lowest 1 g.head.opening else table) lowest) (ap is_done d)
        ∙ (let there = open_done table g d in placed-open form table lowest 1 g.head.opening there.0 there.1)

    pub opened-marking : WholeMarking g.head.opening → open_answer g table ≡ Done
        → marking_at_place form (table_opened g table) (lowest_free (is_open form table)) ≡ g.head.opening
    unfolding table_opened
    opened-marking whole d =
        ap (λ (t : Bool). marking_at_place form (when t then with_place form table lowest 1 g.head.opening else table) lowest) (ap is_done d)
        ∙ (let there = open_done table g d in placed-marking form table lowest 1 g.head.opening there.0 there.1 whole (opening-held g (open-accepted table g d) whole))

    -- ---- step: the place holds the marking after it

    pub stepped-marking : (p a : ℕ) → step_answer g table p a ≡ Done
        → marking_at_place form (table_stepped g table p a) p ≡ next_marking g (marking_at_place form table p) a
    unfolding table_stepped
    stepped-marking p a d =
        let there = step-done table g p a d in
        ap (λ (t : Bool). marking_at_place form (when t then with_marking form table p (next_marking g (marking_at_place form table p) a) else table) p) (ap is_done d)
        ∙ marking-same form table there.0 p (open-below form table p there.1) (next_marking g (marking_at_place form table p) a)
        (whole-next g (marking_at_place form table p) a) (next-held g (marking_at_place form table p) a (step-enabled table g p a d))

    -- ---- close: the place is free, and holds the empty marking

    module _ (p : ℕ) (d : close_answer g table p ≡ Done) where
      pub closed-place : is_open form (table_closed g table p) p ≡ false
      unfolding table_closed non
      closed-place =
          ap (λ (t : Bool). is_open form (when t then with_place form table p 0 empty_marking else table) p) (ap is_done d)
          ∙ (let there = close-done table g p d in placed-open form table p 0 empty_marking there.0 (open-below form table p there.1))

      pub closed-marking : marking_at_place form (table_closed g table p) p ≡ empty_marking
      unfolding table_closed
      closed-marking =
          ap (λ (t : Bool). marking_at_place form (when t then with_place form table p 0 empty_marking else table) p) (ap is_done d)
          ∙ (let there = close-done table g p d in placed-marking form table p 0 empty_marking there.0 (open-below form table p there.1) whole-empty (empty-held form))

    -- ---- 13, exactly where the graph is accepted and all 32 places are taken

    pub full-13 : table_length form ≤ length table → judged g ≡ Done → ((p : ℕ) → p < place_count → is_open form table p ≡ true)
        → open_answer g table ≡ NoPlaceFree
    unfolding open_answer opening
    full-13 long accepted all =
        ap (λ (t : Bool). when t then BufferTooSmall else opening g (is_open form table)) (le-ltb (length table) (table_length form) long)
        ∙ ask-on (judged g) (when every_below place_count (is_open form table) then NoPlaceFree else Done) accepted
        ∙ ap (λ (t : Bool). when t then NoPlaceFree else Done) (T→true (every_below place_count (is_open form table)) (every-i place_count (is_open form table) (λ p l. true→T (all p l))))

    judged-not : number_of (judged g) ≡ 13 → T false
    unfolding judged_for
    judged-not = let no : (n : ℕ) → eqb n 13 ≡ false → n ≡ 13 → T false = λ n f h. false→F f (true→T (ap (λ (k : ℕ). eqb k 13) h)) in
        found-one _ _ _ (λ x. number_of x ≡ 13 → T false) (no 3 refl) (no 5 refl) (no 16 refl) (no 0 refl)

    abbrev Full : Type 0
    Full = (p : ℕ) → p < place_count → is_open form table p ≡ true

    pub 13-full : open_answer g table ≡ NoPlaceFree
        → (table_length form ≤ length table) × (judged g ≡ Done) × ((p : ℕ) → p < place_count → is_open form table p ≡ true)
    unfolding open_answer opening
    13-full h = long (ltb (length table) (table_length form)) refl h
      where
        all : (t : Bool) → every_below place_count (is_open form table) ≡ t → (when t then NoPlaceFree else Done) ≡ NoPlaceFree → Full
        all true e h p l = T→true _ (every-e place_count (is_open form table) (true→T e) p l)
        all false e h p l = absurd (true→T (ap (λ (a : Answer). eqb (number_of a) 13) h))

        asks : (d : Bool) → is_done (judged g) ≡ d
            → then_ask (judged g) (when every_below place_count (is_open form table) then NoPlaceFree else Done) ≡ NoPlaceFree
            → (judged g ≡ Done) × Full
        asks true e h = (done-is (judged g) e, all (every_below place_count (is_open form table)) refl (sym (ask-on (judged g) _ (done-is (judged g) e)) ∙ h))
        asks false e h = absurd (judged-not (ap number_of (sym (ask-stop (judged g) _ e) ∙ h)))

        long : (t : Bool) → ltb (length table) (table_length form) ≡ t → (when t then BufferTooSmall else opening g (is_open form table)) ≡ NoPlaceFree
            → (table_length form ≤ length table) × (judged g ≡ Done) × Full
        long true e h = absurd (true→T (ap (λ (a : Answer). eqb (number_of a) 13) h))
        long false e h =
            let r = asks (is_done (judged g)) refl h in (ltb-false (length table) (table_length form) e, r.0, r.1)
