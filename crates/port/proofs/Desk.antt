-- What the calls of the desk's functions ensure, put together. Assumes nothing.
use mathlib.Core.Path.{◌≡◌, refl, sym, ap, ◌∙◌}
use mathlib.Core.Bool.{Bool, true, false}
use mathlib.Core.List.{List}
use Prim.Native.Nat.{ℕ, ◌≤◌, ◌<◌}
use lib.Dec.{ltb}
use lib.ListN.{length}
use Rattle.sets.specs.Tests.{when◌then◌else◌}
use Rattle.sets.specs.Answers.{is_done, then_ask}
use Rattle.sets.specs.declared.answer.Answer.{Answer}
use Rattle.sets.specs.declared.answer.Answer.TheVariants.{Done, BufferTooSmall}
use Rattle.sets.proofs.Asking.{ask-on, ask-stop, done-is}
use Rattle.sets.proofs.Ways.{taken, passed-by}
use Rattle.sets.specs.Tables.{no_tables}
use Rattle.engine.specs.Relations.{relation_count, in_tables}
use Rattle.engine.specs.Judged.{judged}
use Rattle.octets.specs.Editions.{wide_in}
use Rattle.graphfile.specs.Held.{bare_of, bare_tables, read_of}
use Rattle.graphfile.specs.declared.reader.Reading.{Reading}
use Rattle.graphfile.specs.declared.reader.Bare.{Bare}
use Rattle.octets.proofs.Codec.{Bytes}
use Rattle.desk.specs.Places.{table_length}
use Rattle.desk.specs.Desk.{place_answer, no_place, opened_of, table_opened, step_answer, table_stepped, close_answer, table_closed}
use Rattle.desk.specs.Desk.{step_answer_on, table_stepped_on, close_answer_on, table_closed_on}
use Rattle.desk.proofs.JudgedBefore.{step-answer-on_lem, step-table-on, close-answer-on_lem, close-table-on}
use Rattle.desk.specs.declared.requests.Opened.{Opened}
use Rattle.port.specs.Port.{packed_of, blocked_of}
use Rattle.port.specs.Desk.{before_open, before_place, refused_open, desk_opened_of, desk_open_number, desk_open_table}
use Rattle.port.specs.Desk.{desk_step_number, desk_step_table, desk_close_number, desk_close_table}
use Rattle.port.proofs.BareReading.{bare-answer, bare-formed, read-judged}
use Rattle.port.proofs.Lending.{short-of, room-for_lem}

-- ---- x is what is asked before there is a graph: refused with a, or done

module _ (x a : Answer) (same : a ≡ x) (no : is_done a ≡ false) where
  gone : is_done x ≡ false
  gone = ap is_done (sym same) ∙ no

  kept : (t new : List ℕ) → t ≡ when is_done x then new else t
  kept t new = passed-by (is_done x) new t t (sym gone) refl

  stays : (y : Answer) → a ≡ then_ask x y
  stays y = same ∙ sym (ask-stop x y gone)

  not_opened : (y : Opened) → refused_open a ≡ when is_done x then y else refused_open x
  not_opened y = passed-by (is_done x) y (refused_open x) (refused_open a) (sym gone) (ap refused_open same)

module _ (x : Answer) (yes : is_done x ≡ true) where
  served : {A : Type 0} (y w z : A) → z ≡ y → z ≡ when is_done x then y else w
  served y w z e = taken (is_done x) y w z (sym yes) e

-- ---- open

module _ (file table : List ℕ) where
  abbrev shown : Opened → ℕ
  shown o = packed_of o.answer o.place

  -- refused before there is a graph
  module _ (a : Answer) (same : a ≡ before_open file table) (no : is_done a ≡ false) where
    open-refused-number : (n : ℕ) → n ≡ packed_of a no_place → n ≡ desk_open_number file table
    unfolding desk_opened_of
    open-refused-number n e = e ∙ ap shown (not_opened (before_open file table) a same no (opened_of (read_of file).graph table))

    open-refused-table : table ≡ desk_open_table file table
    unfolding desk_open_table
    open-refused-table = kept (before_open file table) a same no table (table_opened (read_of file).graph table)

  module _ (room : ℕ) (least : room ≡ table_length (wide_in file)) (short : length table < room) where
    too-few_lem : BufferTooSmall ≡ before_open file table
    unfolding before_open
    too-few_lem =
        taken (ltb (length table) (table_length (wide_in file))) BufferTooSmall (read_of file).answer BufferTooSmall
        (short-of (length table) room (table_length (wide_in file)) least short) refl

    pub open-short : (n : ℕ) → n ≡ packed_of BufferTooSmall no_place → n ≡ desk_open_number file table
    open-short n e = open-refused-number BufferTooSmall too-few_lem refl n e

    pub open-short-table : table ≡ desk_open_table file table
    open-short-table = open-refused-table BufferTooSmall too-few_lem refl

  module _ (room : ℕ) (least : room ≡ table_length (wide_in file)) (long : room ≤ length table) (r : Reading) (d : Bool) (hr : r ≡ read_of file) (hd : d ≡ is_done r.answer) where
    the-file : r.answer ≡ before_open file table
    unfolding before_open
    the-file =
        passed-by (ltb (length table) (table_length (wide_in file))) BufferTooSmall (read_of file).answer r.answer
        (room-for_lem (length table) room (table_length (wide_in file)) least long) (ap (λ (x : Reading). x.answer) hr)

    pub open-no-file : (n : ℕ) → d ≡ false → n ≡ packed_of r.answer no_place → n ≡ desk_open_number file table
    open-no-file n t e = open-refused-number r.answer the-file (sym hd ∙ t) n e

    pub open-no-file-table : d ≡ false → table ≡ desk_open_table file table
    open-no-file-table t = open-refused-table r.answer the-file (sym hd ∙ t)

    before : d ≡ true → is_done (before_open file table) ≡ true
    before t = ap is_done (sym the-file) ∙ sym hd ∙ t

    pub open-served : (n : ℕ) (o : Opened) → d ≡ true → o ≡ opened_of r.graph table → n ≡ packed_of o.answer o.place
        → n ≡ desk_open_number file table
    unfolding desk_opened_of
    open-served n o t q e =
        e
        ∙ ap shown
        (served (before_open file table) (before t) (opened_of (read_of file).graph table) (refused_open (before_open file table)) o
        (q ∙ ap (λ (x : Reading). opened_of x.graph table) hr))

    pub open-served-table : (table' : List ℕ) → d ≡ true → table' ≡ table_opened r.graph table
        → table' ≡ desk_open_table file table
    unfolding desk_open_table
    open-served-table table' t q =
        served (before_open file table) (before t) (table_opened (read_of file).graph table) table table'
        (q ∙ ap (λ (x : Reading). table_opened x.graph table) hr)

pub ruleset opening = (open-short, open-short-table, open-no-file, open-no-file-table, open-served, open-served-table)

-- ---- step and close; what is asked first serves a way out too

module _ (file table : List ℕ) (p : ℕ) where
  -- refused before there is a graph
  module _ (a : Answer) (same : a ≡ before_place file table p) (no : is_done a ≡ false) where
    step-refused-number : (e n : ℕ) → n ≡ blocked_of a 0 false → n ≡ desk_step_number file table p e
    unfolding desk_step_number
    step-refused-number e n h =
        h
        ∙ ap (λ (x : Answer). blocked_of x 0 false)
        (stays (before_place file table p) a same no (step_answer (read_of file).graph table p e))

    step-refused-table : (e : ℕ) → table ≡ desk_step_table file table p e
    unfolding desk_step_table
    step-refused-table e = kept (before_place file table p) a same no table (table_stepped (read_of file).graph table p e)

    close-refused-number : (n : ℕ) → n ≡ packed_of a 0 → n ≡ desk_close_number file table p
    unfolding desk_close_number
    close-refused-number n h =
        h
        ∙ ap (λ (x : Answer). packed_of x 0)
        (stays (before_place file table p) a same no (close_answer (read_of file).graph table p))

    close-refused-table : table ≡ desk_close_table file table p
    unfolding desk_close_table
    close-refused-table = kept (before_place file table p) a same no table (table_closed (read_of file).graph table p)

  module _ (w : Bool) (hw : w ≡ wide_in file) (b : Answer) (d : Bool) (told : b ≡ place_answer w table p) (hd : d ≡ is_done b) where
    hb : b ≡ place_answer (wide_in file) table p
    hb = told ∙ ap (λ (v : Bool). place_answer v table p) hw

    module _ (t : d ≡ false) where
      no-place_lem : is_done b ≡ false
      no-place_lem = sym hd ∙ t

      pub the-place : b ≡ before_place file table p
      unfolding before_place
      the-place = stays (place_answer (wide_in file) table p) b hb no-place_lem (read_of file).answer

      pub step-no-place : (e n : ℕ) → n ≡ blocked_of b 0 false → n ≡ desk_step_number file table p e
      step-no-place = step-refused-number b the-place no-place_lem

      pub step-no-place-table : (e : ℕ) → table ≡ desk_step_table file table p e
      step-no-place-table = step-refused-table b the-place no-place_lem

      pub close-no-place : (n : ℕ) → n ≡ packed_of b 0 → n ≡ desk_close_number file table p
      close-no-place = close-refused-number b the-place no-place_lem

      pub close-no-place-table : table ≡ desk_close_table file table p
      close-no-place-table = close-refused-table b the-place no-place_lem

    module _ (t : d ≡ true) (x : Answer) (f : Bool) (hx : x ≡ (read_of file).answer) (hf : f ≡ is_done x) where
      pub the-file-then : x ≡ before_place file table p
      unfolding before_place
      the-file-then = hx ∙ sym (ask-on (place_answer (wide_in file) table p) (read_of file).answer (sym hb ∙ done-is b (sym hd ∙ t)))

      pub asked : f ≡ true → is_done (before_place file table p) ≡ true
      asked u = ap is_done (sym the-file-then) ∙ sym hf ∙ u

    module _ (t : d ≡ true) (r : Bare) (f : Bool) (hr : r ≡ bare_of file) (hf : f ≡ is_done r.answer) where
      module _ (u : f ≡ false) where
        no-file : is_done r.answer ≡ false
        no-file = sym hf ∙ u

        its-answer : r.answer ≡ before_place file table p
        its-answer = the-file-then t r.answer f (bare-answer file r hr) hf

        pub step-no-file : (e n : ℕ) → n ≡ blocked_of r.answer 0 false → n ≡ desk_step_number file table p e
        step-no-file = step-refused-number r.answer its-answer no-file

        pub step-no-file-table : (e : ℕ) → table ≡ desk_step_table file table p e
        step-no-file-table = step-refused-table r.answer its-answer no-file

        pub close-no-file : (n : ℕ) → n ≡ packed_of r.answer 0 → n ≡ desk_close_number file table p
        close-no-file = close-refused-number r.answer its-answer no-file

        pub close-no-file-table : table ≡ desk_close_table file table p
        close-no-file-table = close-refused-table r.answer its-answer no-file

-- the graph of a file that was read, and judged by reading it
module _ (file : List ℕ) (small : Bytes file) (table : List ℕ) (p : ℕ) (w : Bool) (hw : w ≡ wide_in file) (b : Answer) (d : Bool)
    (told : b ≡ place_answer w table p) (hd : d ≡ is_done b) (t : d ≡ true) (r : Bare) (f : Bool) (hr : r ≡ bare_of file)
    (hf : f ≡ is_done r.answer) (u : f ≡ true) (tables : List ℕ) (ht : tables ≡ bare_tables file (no_tables relation_count)) where
  there : is_done (before_place file table p) ≡ true
  there = asked file table p w hw b d told hd t r.answer f (bare-answer file r hr) hf u

  on : (y : Answer) → then_ask (before_place file table p) y ≡ y
  on y = ask-on (before_place file table p) y (done-is (before_place file table p) there)

  accepted : judged (read_of file).graph ≡ Done
  accepted = read-judged file r hr f hf u small

  pub step-served : (e n : ℕ) (x : Answer) → x ≡ step_answer_on w r.events (in_tables tables) table p e → n ≡ blocked_of x 0 false
      → n ≡ desk_step_number file table p e
  unfolding desk_step_number
  step-served e n x q h =
      h
      ∙ ap (λ (y : Answer). blocked_of y 0 false)
      (q ∙ bare-formed file r hr f hf u tables ht (λ v E R. step_answer_on v E R table p e) w hw ∙ sym (step-answer-on_lem (read_of file).graph accepted table p e)
      ∙ sym (on (step_answer (read_of file).graph table p e)))

  pub step-served-table : (e : ℕ) (table' : List ℕ) → table' ≡ table_stepped_on w r.events (in_tables tables) table p e
      → table' ≡ desk_step_table file table p e
  unfolding desk_step_table
  step-served-table e table' q =
      served (before_place file table p) there (table_stepped (read_of file).graph table p e) table table'
      (q ∙ bare-formed file r hr f hf u tables ht (λ v E R. table_stepped_on v E R table p e) w hw ∙ sym (step-table-on (read_of file).graph accepted table p e))

  pub close-served : (n : ℕ) (x : Answer) → x ≡ close_answer_on w r.events (in_tables tables) table p → n ≡ packed_of x 0
      → n ≡ desk_close_number file table p
  unfolding desk_close_number
  close-served n x q h =
      h
      ∙ ap (λ (y : Answer). packed_of y 0)
      (q ∙ bare-formed file r hr f hf u tables ht (λ v E R. close_answer_on v E R table p) w hw ∙ sym (close-answer-on_lem (read_of file).graph accepted table p)
      ∙ sym (on (close_answer (read_of file).graph table p)))

  pub close-served-table : (table' : List ℕ) → table' ≡ table_closed_on w r.events (in_tables tables) table p
      → table' ≡ desk_close_table file table p
  unfolding desk_close_table
  close-served-table table' q =
      served (before_place file table p) there (table_closed (read_of file).graph table p) table table'
      (q ∙ bare-formed file r hr f hf u tables ht (λ v E R. table_closed_on v E R table p) w hw ∙ sym (close-table-on (read_of file).graph accepted table p))

pub ruleset stepping-there = (step-no-place, step-no-place-table, step-no-file, step-no-file-table)

pub ruleset closing-there = (close-no-place, close-no-place-table, close-no-file, close-no-file-table)
