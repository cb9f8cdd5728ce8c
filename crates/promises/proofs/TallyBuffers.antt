-- 02, 12/12: buffers that hold tallies, filled and joined. A buffer with the tally of some traces is taken by every function, joining gives one with
-- the traces of both, and the laws of joining hold of whole buffers. Assumes nothing.
use mathlib.Core.Path.{◌≡◌, refl, sym, ap, ap₂, ◌∙◌}
use mathlib.Core.Bool.{Bool, false}
use mathlib.Core.List.{List, [], ◌++◌, append-nil}
use Prim.Native.Nat.{ℕ, max, ◌≤◌}
use native.Mathlib.Nat.{lt_of_lt_of_le, le-max_left, le-max_right, max-le, max-zero, zero-max}
use native.Mathlib.Omega.{arith}
use borrow.Author.Tests.{le-ltb, ltb-false}
use lib.ListN.{length, take, drop, take-append-drop}
use lib.Seq.{length-take-le, get_or-take, take_at, drop_at}
use Rattle.sets.specs.Tests.{◌or◌, when◌then◌else◌}
use Rattle.sets.specs.Members.{no_set, those}
use Rattle.sets.specs.Tables.{no_tables}
use Rattle.sets.specs.declared.set.Set.{Set}
use Rattle.sets.specs.Answers.{is_done}
use Rattle.sets.specs.declared.answer.Answer.{Answer}
use Rattle.sets.specs.declared.answer.Answer.TheVariants.{Done, AboveLimit, BufferTooSmall}
use Rattle.sets.proofs.Tests.{neither, nor, or_comm, T→true, F→false, split, either}
use Rattle.sets.proofs.Asking.{done-is, both, went}
use Rattle.octets.proofs.Parts.{part_room}
use Rattle.engine.specs.Relations.{relation_count, tables_from}
use Rattle.calllog.specs.Logs.{log_of}
use Rattle.rules.specs.declared.Profile.{Profile}
use Rattle.rules.specs.Traces.{Traces}
use Rattle.rules.specs.Mining.{event, after_eight}
use Rattle.rules.specs.Replays.{Accepted}
use Rattle.rules.proofs.Places.{some-trace_lem}
use Rattle.rules.proofs.FromFile.{file-accepted}
use Rattle.months.specs.Layout.{tally_width, tally_length, activities_in, set_in}
use Rattle.months.specs.Tallies.{tally_of}
use Rattle.months.specs.Readings.{tables_in, between_in, relations_from}
use Rattle.months.specs.declared.reading.Known.{Known}
use Rattle.months.specs.Months.{room, too_few, too_many, fill_answer, filled_of, join_answer, joined, joined_of, known_answer, known_of}
use Rattle.months.proofs.Holding.{activities-held, length-held}
use Rattle.months.proofs.AfterEight.{Held, events-held, relations-held}
use Rattle.promises.specs.Months.{TallyOf}
use Rattle.promises.proofs.Together.{of_either}
use Rattle.promises.proofs.Joining.{joined-comm, joined-assoc, joined-self, joined_length, tallies-joined}

-- ---- a buffer with a tally

module _ {t : List ℕ} {A : ℕ} {L : Traces} (h : TallyOf t A L) where
  pub has_room : tally_length ≤ length t
  has_room = part_room t 0 tally_length (ap length h.tally ∙ length-held L A) (omega arith)

  pub its-activities : activities_in t ≡ A
  its-activities = sym (get_or-take tally_length t 0 0 (omega arith)) ∙ ap activities_in h.tally ∙ activities-held L A

  enough : too_few t ≡ false
  enough = le-ltb (length t) tally_length has_room

  not-above : too_many (activities_in t) ≡ false
  not-above = ap too_many its-activities ∙ le-ltb tally_width A h.narrow

  pub known-done : known_answer t ≡ Done
  unfolding known_answer
  known-done i = room (enough i) (not-above i)

  -- its traces have no activity that a tally cannot hold
  its-traces : Held L
  unfolding event
  its-traces a e = let σ = some-trace_lem L _ e in lt_of_lt_of_le (h.limits.members σ.0 σ.1 a σ.2) h.narrow

  -- ---- what is read from it

  whole : t ≡ tally_of A L ++ drop tally_length t
  whole = sym (take-append-drop tally_length t) ∙ ap (λ (l : List ℕ). l ++ drop tally_length t) h.tally

  its-events : set_in t 1 ≡ those (event L)
  its-events = ap (λ (l : List ℕ). set_in l 1) whole ∙ events-held A L its-traces (drop tally_length t)

  its-relations : (p : Profile) → relations_from (set_in t 1) (tables_in t) (between_in t) p ≡ tables_from (after_eight L p)
  its-relations p =
      ap (λ (l : List ℕ). relations_from (set_in l 1) (tables_in l) (between_in l) p) whole ∙ relations-held A L its-traces (drop tally_length t) p

  -- THE THEOREM of reading: A, the events and the relations of steps 1 to 8
  pub known-eight : (p : Profile)
      → known_of t p ≡ record { answer = Done; activities = A; events = those (event L); relations = tables_from (after_eight L p) }
  unfolding known_of
  known-eight p =
      ap (λ (a : Answer). when is_done a then known Done (activities_in t) (set_in t 1) (relations_from (set_in t 1) (tables_in t) (between_in t) p)
      else known a 0 no_set (no_tables relation_count)) known-done
      ∙ (λ i. known Done (its-activities i) (its-events i) (its-relations p i))
    where
      known : Answer → ℕ → Set → List ℕ → Known
      known a n e r = record { answer = a; activities = n; events = e; relations = r }

-- ---- joining, where it is done

module _ (t u : List ℕ) where
  pub join-comm : join_answer t u ≡ join_answer u t
  unfolding join_answer
  join-comm i = room (or_comm (too_few t) (too_few u) i) (or_comm (too_many (activities_in t)) (too_many (activities_in u)) i)

  pub join-refused : is_done (join_answer t u) ≡ false → joined_of t u ≡ t
  unfolding joined_of
  join-refused r = ap (λ (d : Bool). when d then joined (take tally_length t) (take tally_length u) ++ drop tally_length t else t) r

  module _ (d : join_answer t u ≡ Done) where
    rooms : (tally_length ≤ length t) × (tally_length ≤ length u)
    unfolding join_answer
    rooms =
        let few = neither (too_few t) (too_few u) (went (too_few t or too_few u) BufferTooSmall _ refl d).0 in
        (ltb-false (length t) tally_length few.0, ltb-false (length u) tally_length few.1)

    joined-first : length (joined (take tally_length t) (take tally_length u)) ≡ tally_length
    joined-first =
        let one = length-take-le tally_length t rooms.0 in
        let other = length-take-le tally_length u rooms.1 in
        joined_length (take tally_length t) (take tally_length u) (one ∙ sym other) ∙ one

    join_is : joined_of t u ≡ joined (take tally_length t) (take tally_length u) ++ drop tally_length t
    unfolding joined_of
    join_is = ap (λ (a : Answer). when is_done a then joined (take tally_length t) (take tally_length u) ++ drop tally_length t else t) d

    -- the first 36,864 bytes are joined, the others stay
    pub join_first : take tally_length (joined_of t u) ≡ joined (take tally_length t) (take tally_length u)
    join_first = ap (take tally_length) join_is ∙ take_at (joined (take tally_length t) (take tally_length u)) (drop tally_length t) tally_length joined-first

    pub join-rest : drop tally_length (joined_of t u) ≡ drop tally_length t
    join-rest = ap (drop tally_length) join_is ∙ drop_at (joined (take tally_length t) (take tally_length u)) (drop tally_length t) tally_length joined-first

-- ---- the laws, of any bytes

-- which comes first
pub order : (t u : List ℕ) → join_answer t u ≡ Done → take tally_length (joined_of t u) ≡ take tally_length (joined_of u t)
order t u d =
    join_first t u d ∙ joined-comm (take tally_length t) (take tally_length u) ∙ sym (join_first u t (sym (join-comm t u) ∙ d))

-- how three are grouped
pub grouping : (t u v : List ℕ) → join_answer t u ≡ Done → join_answer u v ≡ Done → join_answer (joined_of t u) v ≡ Done → join_answer t (joined_of u v) ≡ Done
    → joined_of (joined_of t u) v ≡ joined_of t (joined_of u v)
grouping t u v tu uv front back =
    join_is (joined_of t u) v front
    ∙ ap₂ ◌++◌
    (ap (λ (l : List ℕ). joined l (take tally_length v)) (join_first t u tu)
    ∙ joined-assoc (take tally_length t) (take tally_length u) (take tally_length v)
    ∙ ap (joined (take tally_length t)) (sym (join_first u v uv)))
    (join-rest t u tu)
    ∙ sym (join_is t (joined_of u v) back)

-- with itself
pub itself : (t u : List ℕ) → take tally_length u ≡ take tally_length t → joined_of t u ≡ t
itself t u e =
    either (split (is_done (join_answer t u)))
    (λ y.
    join_is t u (done-is _ (T→true _ y))
    ∙ ap (λ (l : List ℕ). l ++ drop tally_length t) (ap (joined (take tally_length t)) e ∙ joined-self (take tally_length t))
    ∙ take-append-drop tally_length t)
    (λ n. join-refused t u (F→false _ n))

-- ---- of tallies

limits-together : (A B : ℕ) (L M : Traces) → Accepted A L → Accepted B M → Accepted (max A B) (L ++ M)
limits-together A B L M a b =
    record {
      activities = max-le a.activities b.activities;
      lengths = λ σ m. either (of_either L M m) (a.lengths σ) (b.lengths σ);
      members = λ σ m x h.
          either (of_either L M m)
          (λ k. lt_of_lt_of_le (a.members σ k x h) (le-max_left A B))
          (λ k. lt_of_lt_of_le (b.members σ k x h) (le-max_right A B));
    }

module _ {t u : List ℕ} {A B : ℕ} {L M : Traces} (h : TallyOf t A L) (k : TallyOf u B M) where
  pub join-done : join_answer t u ≡ Done
  unfolding join_answer
  join-done i =
      room (nor (too_few t) (too_few u) (enough h) (enough k) i)
      (nor (too_many (activities_in t)) (too_many (activities_in u)) (not-above h) (not-above k) i)

  first-together : take tally_length (joined_of t u) ≡ tally_of (max A B) (L ++ M)
  first-together = join_first t u join-done ∙ ap₂ joined h.tally k.tally ∙ tallies-joined A B L M

  -- THE THEOREM: the tally of the larger A and of the traces taken together
  pub join-together : TallyOf (joined_of t u) (max A B) (L ++ M)
  join-together = record { tally = first-together; limits = limits-together A B L M h.limits k.limits; narrow = max-le h.narrow k.narrow }

-- the tally of A 0 and no traces changes nothing
module _ {t u : List ℕ} {A : ℕ} {L : Traces} where
  pub join-none : TallyOf t A L → TallyOf u 0 [] → joined_of t u ≡ t
  join-none h k =
      sym (take-append-drop tally_length (joined_of t u))
      ∙ ap₂ ◌++◌ (first-together h k ∙ ap₂ tally_of (max-zero A) (append-nil L) ∙ sym h.tally) (join-rest t u (join-done h k))
      ∙ take-append-drop tally_length t

  pub none-joined : TallyOf t 0 [] → TallyOf u A L → take tally_length (joined_of t u) ≡ take tally_length u
  none-joined h k = first-together h k ∙ ap (λ (n : ℕ). tally_of n L) (zero-max A) ∙ sym k.tally

-- ---- filling

module _ (log before : List ℕ) where
  abbrev A : ℕ
  A = (log_of log).activities

  abbrev L : Traces
  L = (log_of log).traces

  pub fill-refused : is_done (fill_answer log before) ≡ false → filled_of log before ≡ before
  unfolding filled_of
  fill-refused r = ap (λ (d : Bool). when d then tally_of A L ++ drop tally_length before else before) r

  module _ (d : fill_answer log before ≡ Done) where
    filled : filled_of log before ≡ tally_of A L ++ drop tally_length before
    unfolding filled_of
    filled = ap (λ (a : Answer). when is_done a then tally_of A L ++ drop tally_length before else before) d

    few-enough : A ≤ tally_width
    unfolding fill_answer
    few-enough =
        let asked = (both (log_of log).answer (room (too_few before) (too_many A)) d).1 in
        ltb-false tally_width A (went (too_many A) AboveLimit Done refl (went (too_few before) BufferTooSmall _ refl asked).1).0

    pub fill-tally : TallyOf (filled_of log before) A L
    fill-tally =
        record {
          tally = ap (take tally_length) filled ∙ take_at (tally_of A L) (drop tally_length before) tally_length (length-held L A);
          limits = file-accepted log;
          narrow = few-enough;
        }

    pub fill-rest : drop tally_length (filled_of log before) ≡ drop tally_length before
    fill-rest = ap (drop tally_length) filled ∙ drop_at (tally_of A L) (drop tally_length before) tally_length (length-held L A)
