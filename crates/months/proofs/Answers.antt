-- The ways out of `fill`, `join` and `relations`. Assumes nothing.
use mathlib.Core.Path.{◌≡◌, refl, sym, ap, ap₂, ◌∙◌}
use mathlib.Core.Bool.{Bool, true, false}
use mathlib.Core.List.{List, ◌++◌}
use Prim.Native.Nat.{ℕ, ◌*◌, ◌≤◌, ◌<◌, max}
use native.Mathlib.Omega.{arith}
use borrow.Author.Tests.{lt-ltb, le-ltb, ltb-true, ltb-false}
use lib.Dec.{ltb}
use lib.ListN.{length, get_or, set, take, drop}
use lib.Seq.{get_or-take, set-append_left, length-take-le}
use Rattle.sets.specs.Tests.{◌or◌, when◌then◌else◌}
use Rattle.sets.specs.Members.{no_set}
use Rattle.sets.specs.Tables.{no_tables}
use Rattle.sets.specs.declared.set.Set.{Set}
use Rattle.sets.specs.Answers.{is_done}
use Rattle.sets.specs.declared.answer.Answer.{Answer}
use Rattle.sets.specs.declared.answer.Answer.TheVariants.{Done, AboveLimit, BufferTooSmall}
use Rattle.sets.proofs.Tests.{or-true}
use Rattle.octets.specs.Sets.{set_length, set_at}
use Rattle.engine.specs.Relations.{relation_count}
use Rattle.rules.specs.declared.Profile.{Profile}
use Rattle.calllog.specs.declared.judge.Judged.{Judged}
use Rattle.calllog.specs.Logs.{log_of, judged_of}
use Rattle.rules.specs.Traces.{Traces}
use Rattle.tally.specs.Passes.{walked}
use Rattle.miner.proofs.FromLog.{walk-all}
use Rattle.months.specs.declared.reading.Known.{Known}
use Rattle.months.specs.Layout.{tally_width, tally_length, activities_in, set_in}
use Rattle.months.specs.Tallies.{tally_of}
use Rattle.months.specs.Months.{room, too_few, too_many, fill_answer, filled_of, join_answer, bytes_or, joined, joined_of, known_answer, known_of}
use Rattle.months.specs.Readings.{tables_in, between_in, relations_from}
use Rattle.months.proofs.Bytewise.{length-or}

-- ---- join

module _ (t o : List ℕ) where
  join_by : (small above : Bool) → (too_few t or too_few o) ≡ small → (too_many (activities_in t) or too_many (activities_in o)) ≡ above
      → join_answer t o ≡ room small above
  unfolding join_answer
  join_by small above hs ha = ap₂ room hs ha

  join-stays : (a : Answer) → join_answer t o ≡ a → is_done a ≡ false → (a ≡ join_answer t o) × (t ≡ joined_of t o)
  unfolding joined_of
  join-stays a h n = (
    sym h,
    sym (ap (λ (b : Bool). when b then joined (take tally_length t) (take tally_length o) ++ drop tally_length t else t) (ap is_done h ∙ n)),
  )

  pub join-few : length t < tally_length → (BufferTooSmall ≡ join_answer t o) × (t ≡ joined_of t o)
  unfolding ◌or◌
  join-few l = join-stays BufferTooSmall (join_by true _ (ap (λ (b : Bool). b or too_few o) (lt-ltb (length t) tally_length l)) refl) refl

  pub join-few-other : length o < tally_length → (BufferTooSmall ≡ join_answer t o) × (t ≡ joined_of t o)
  join-few-other l =
      join-stays BufferTooSmall (join_by true _ (ap (λ (b : Bool). too_few t or b) (lt-ltb (length o) tally_length l) ∙ or-true (too_few t)) refl) refl

  module _ (l : tally_length ≤ length t) (k : tally_length ≤ length o) where
    enough : (too_few t or too_few o) ≡ false
    unfolding ◌or◌
    enough = ap₂ ◌or◌ (le-ltb (length t) tally_length l) (le-ltb (length o) tally_length k)

    many : (a b : ℕ) → ltb tally_width (max a b) ≡ (too_many a or too_many b)
    many a b = by (ltb tally_width a) (ltb tally_width b) refl refl
      where
        by : (x y : Bool) → ltb tally_width a ≡ x → ltb tally_width b ≡ y → ltb tally_width (max a b) ≡ (x or y)
        by true y ha hb = let g = ltb-true tally_width a ha in lt-ltb tally_width (max a b) (omega arith) ∙ unfold ◌or◌ in refl
        by false true ha hb = let g = ltb-true tally_width b hb in lt-ltb tally_width (max a b) (omega arith) ∙ unfold ◌or◌ in refl
        by false false ha hb =
            let g = ltb-false tally_width a ha in
            let h = ltb-false tally_width b hb in
            le-ltb tally_width (max a b) (omega arith) ∙ unfold ◌or◌ in refl

    module _ (m : ℕ) (hm : m ≡ max (get_or t 0 0) (get_or o 0 0)) where
      pub join-above : tally_width < m → (AboveLimit ≡ join_answer t o) × (t ≡ joined_of t o)
      join-above g =
          join-stays AboveLimit
          (join_by false true enough (sym (many (get_or t 0 0) (get_or o 0 0)) ∙ ap (ltb tally_width) (sym hm) ∙ lt-ltb tally_width m g)) refl

      pub join-done : (bytes t₂ : List ℕ) → m ≤ tally_width → bytes ≡ bytes_or (take tally_length t) (take tally_length o)
          → t₂ ≡ set (bytes ++ drop tally_length t) 0 m → (Done ≡ join_answer t o) × (t₂ ≡ joined_of t o)
      unfolding joined_of joined
      join-done bytes t₂ g h₁ h₂ =
          let answer = join_by false false enough (sym (many (get_or t 0 0) (get_or o 0 0)) ∙ ap (ltb tally_width) (sym hm) ∙ le-ltb tally_width m g) in
          let both = bytes_or (take tally_length t) (take tally_length o) in
          let first : get_or (take tally_length t) 0 0 ≡ get_or t 0 0 = get_or-take tally_length t 0 0 (omega arith) in
          let second : get_or (take tally_length o) 0 0 ≡ get_or o 0 0 = get_or-take tally_length o 0 0 (omega arith) in
          let one = length-take-le tally_length t l in
          let two = length-take-le tally_length o k in (
            sym answer,
            h₂
                ∙ ap (λ (x : List ℕ). set (x ++ drop tally_length t) 0 m) h₁
                ∙ set-append_left both (drop tally_length t) 0 m (omega (arith, length-or (take tally_length t) (take tally_length o) (one ∙ sym two)))
                ∙ ap (λ (n : ℕ). set both 0 n ++ drop tally_length t) (hm ∙ sym (ap₂ max first second))
                ∙ sym (ap (λ (b : Bool). when b then joined (take tally_length t) (take tally_length o) ++ drop tally_length t else t) (ap is_done answer)),
          )

-- ---- fill

module _ (log t : List ℕ) (j : Judged) (hj : j ≡ judged_of log) (r : Bool) (hr : r ≡ is_done j.answer) where
  the-answer : j.answer ≡ (log_of log).answer
  the-answer = ap (λ (x : Judged). x.answer) hj

  fill-stays : (a : Answer) → fill_answer log t ≡ a → is_done a ≡ false → (a ≡ fill_answer log t) × (t ≡ filled_of log t)
  unfolding filled_of
  fill-stays a h n = (
    sym h,
    sym (ap (λ (b : Bool). when b then tally_of (log_of log).activities (log_of log).traces ++ drop tally_length t else t) (ap is_done h ∙ n)),
  )

  pub fill-refused : r ≡ false → (j.answer ≡ fill_answer log t) × (t ≡ filled_of log t)
  unfolding fill_answer
  fill-refused n =
      let no : is_done (log_of log).answer ≡ false = ap is_done (sym the-answer) ∙ sym hr ∙ n in
      fill-stays j.answer
      (ap (λ (b : Bool). when b then room (too_few t) (too_many (log_of log).activities) else (log_of log).answer) no ∙ sym the-answer)
      (ap is_done the-answer ∙ no)

  module _ (y : r ≡ true) where
    asked-next : fill_answer log t ≡ room (too_few t) (too_many j.activities)
    unfolding fill_answer
    asked-next =
        ap (λ (b : Bool). when b then room (too_few t) (too_many (log_of log).activities) else (log_of log).answer)
        (ap is_done (sym the-answer) ∙ sym hr ∙ y)
        ∙ ap (λ (x : Judged). room (too_few t) (too_many x.activities)) (sym hj)

    pub fill-few : length t < tally_length → (BufferTooSmall ≡ fill_answer log t) × (t ≡ filled_of log t)
    fill-few l = fill-stays BufferTooSmall (asked-next ∙ ap (λ (b : Bool). room b (too_many j.activities)) (lt-ltb (length t) tally_length l)) refl

    module _ (l : tally_length ≤ length t) where
      then-above : fill_answer log t ≡ room false (too_many j.activities)
      then-above = asked-next ∙ ap (λ (b : Bool). room b (too_many j.activities)) (le-ltb (length t) tally_length l)

      pub fill-above : tally_width < j.activities → (AboveLimit ≡ fill_answer log t) × (t ≡ filled_of log t)
      fill-above g = fill-stays AboveLimit (then-above ∙ ap (room false) (lt-ltb tally_width j.activities g)) refl

      pub fill_done : (t' : List ℕ) → j.activities ≤ tally_width
          → t' ≡ tally_of j.activities (walked log j.traces 0) ++ drop tally_length t → (Done ≡ fill_answer log t) × (t' ≡ filled_of log t)
      unfolding filled_of
      fill_done t' g h =
          let answer = then-above ∙ ap (room false) (le-ltb tally_width j.activities g) in (
            sym answer,
            h
                ∙ ap (λ (x : Judged). tally_of x.activities (walked log x.traces 0) ++ drop tally_length t) hj
                ∙ ap (λ (L : Traces). tally_of (log_of log).activities L ++ drop tally_length t) (walk-all log)
                ∙ sym (ap (λ (b : Bool). when b then tally_of (log_of log).activities (log_of log).traces ++ drop tally_length t else t) (ap is_done answer)),
          )

-- ---- relations

abbrev refused_as : Answer → Known
refused_as a = record { answer = a; activities = 0; events = no_set; relations = no_tables relation_count }

module _ (t : List ℕ) (p : Profile) where
  abbrev read : Known
  read =
      record {
        answer = Done;
        activities = activities_in t;
        events = set_in t 1;
        relations = relations_from (set_in t 1) (tables_in t) (between_in t) p;
      }

  known-stays : (a : Answer) (k : Known) → known_answer t ≡ a → is_done a ≡ false → k ≡ refused_as a → k ≡ known_of t p
  unfolding known_of
  known-stays a k h n e =
      e ∙ sym (ap₂ (λ (b : Bool) (x : Answer). when b then read else refused_as x) (ap is_done h ∙ n) h)

  pub known-few : (k : Known) → length t < tally_length → k ≡ refused_as BufferTooSmall → k ≡ known_of t p
  unfolding known_answer
  known-few k l e = known-stays BufferTooSmall k (ap (λ (b : Bool). room b (too_many (activities_in t))) (lt-ltb (length t) tally_length l)) refl e

  module _ (k : Known) (l : tally_length ≤ length t) where
    pub known-above : tally_width < get_or t 0 0 → k ≡ refused_as AboveLimit → k ≡ known_of t p
    unfolding known_answer
    known-above g e =
        known-stays AboveLimit k
        (ap₂ room (le-ltb (length t) tally_length l) (lt-ltb tally_width (get_or t 0 0) g)) refl e

  pub known-done : (events : Set) (tables r : List ℕ) → tally_length ≤ length t → get_or t 0 0 ≤ tally_width → events ≡ set_at false t (set_length false * 1)
      → tables ≡ tables_in t → r ≡ relations_from events tables (between_in t) p
      → ◌≡◌ {A = Known} (record { answer = Done; activities = get_or t 0 0; events = events; relations = r }) (known_of t p)
  unfolding known_of known_answer
  known-done events tables r l g he ht hr =
      (λ i. record {
        answer = Done;
        activities = get_or t 0 0;
        events = he i;
        relations = (hr ∙ ap₂ (λ (s : Set) (x : List ℕ). relations_from s x (between_in t) p) he ht) i;
      })
      ∙ sym (ap₂ (λ (a b : Bool). when is_done (room a b) then read else refused_as (room a b)) (le-ltb (length t) tally_length l)
      (le-ltb tally_width (get_or t 0 0) g))
