-- What the calls of a way out ensure, put together. Assumes nothing.
use mathlib.Core.Path.{◌≡◌, refl, sym, ap, ap₂, ◌∙◌}
use mathlib.Core.Bool.{Bool, true, false}
use mathlib.Core.List.{List, [], ◌∷◌}
use Prim.Native.Nat.{ℕ, ◌≤◌, ◌<◌}
use borrow.Author.Tests.{lt-ltb, le-ltb}
use lib.Dec.{ltb}
use lib.ListN.{length}
use lib.Seq.{sets}
use Rattle.sets.specs.Tests.{non, when◌then◌else◌}
use Rattle.sets.specs.Answers.{number_of, is_done}
use Rattle.sets.specs.declared.answer.Answer.{Answer}
use Rattle.sets.specs.declared.answer.Answer.TheVariants.{BufferTooSmall}
use Rattle.sets.specs.Tables.{no_tables}
use Rattle.engine.specs.Relations.{relation_count, in_tables, relations_of}
use Rattle.engine.specs.declared.marking.Marking.{Marking}
use Rattle.octets.specs.Editions.{wide_in}
use Rattle.graphfile.specs.Held.{read_of, bare_of, bare_tables}
use Rattle.graphfile.specs.Markings.{marking_length, marking_from}
use Rattle.graphfile.specs.declared.reader.Reading.{Reading}
use Rattle.graphfile.specs.declared.reader.Bare.{Bare}
use Rattle.octets.proofs.Codec.{Bytes}
use Rattle.finish.specs.Ways.{finished_by, finish_of, finish_on}
use Rattle.finish.proofs.Searching.{finish-on_lem}
use Rattle.finish.specs.Shut.{nothing, shut_by}
use Rattle.finish.specs.declared.search.Way.{Way}
use Rattle.finish.specs.declared.search.Finished.{Finished}
use Rattle.port.specs.Port.{packed_of}
use Rattle.desk.specs.WayOut.{finished_at, finished_on}
use Rattle.desk.proofs.JudgedBefore.{finished-on_lem}
use Rattle.desk.specs.Desk.{place_answer}
use Rattle.port.specs.Desk.{before_place}
use Rattle.port.specs.WayOut.{way_into, way_after, finish_in, desk_finish_in, shut_number}
use Rattle.port.proofs.Lending.{short-of, room-for_lem}
use Rattle.port.proofs.BareReading.{bare-answer, file-done, bare-graph, bare-formed, read-judged}
use Rattle.port.proofs.Desk.{the-place, the-file-then, asked}

-- ---- a way put down

module _ (w : Way) (bytes : List ℕ) where
  abbrev four_set : List ℕ
  four_set = sets bytes 0 (w.first.0 ∷ w.second.0 ∷ w.third.0 ∷ w.fourth.0 ∷ [])

  pub way-put : 4 ≤ length bytes → four_set ≡ way_into w bytes
  unfolding way_into
  way-put l = sym (ap (λ (b : Bool). when b then bytes else four_set) (le-ltb (length bytes) 4 l))

  pub way-short : length bytes < 4 → bytes ≡ way_into w bytes
  unfolding way_into
  way-short l = sym (ap (λ (b : Bool). when b then bytes else four_set) (lt-ltb (length bytes) 4 l))

-- ---- the search on a file

module _ (file marking : List ℕ) (room : ℕ) where
  -- what it gives where the file is refused or not, and where the marking or the room is short or not
  abbrev chosen : Bool → Bool → Bool → Finished
  chosen d short narrow =
      when non d then finished_by (read_of file).answer []
      else when short then finished_by BufferTooSmall []
      else when narrow then finished_by BufferTooSmall []
      else finish_of (read_of file).graph (marking_from (wide_in file) marking)

  module _ (r : Bare) (d : Bool) (hr : r ≡ bare_of file) (hd : d ≡ is_done r.answer) where
    choice : (t short narrow : Bool) → d ≡ t → ltb (length marking) (marking_length (wide_in file)) ≡ short → ltb room 4 ≡ narrow
        → chosen t short narrow ≡ finish_in file marking room
    unfolding finish_in
    choice t short narrow e l n =
        sym (ap₂ (λ (x y : Bool). chosen x y (ltb room 4)) (file-done file r hr d hd t e) l ∙ ap (chosen t short) n)

    pub finish-refused : d ≡ false → finished_by r.answer [] ≡ finish_in file marking room
    unfolding non
    finish-refused n = ap (λ (x : Answer). finished_by x []) (bare-answer file r hr) ∙ choice false _ _ (n) refl refl

    module _ (n : d ≡ true) (least : ℕ) (e : least ≡ marking_length (wide_in file)) where
      pub finish-short : length marking < least → finished_by BufferTooSmall [] ≡ finish_in file marking room
      unfolding non
      finish-short l = choice true true _ (n) (sym (short-of (length marking) least (marking_length (wide_in file)) e l)) refl

      module _ (l : least ≤ length marking) where
        enough : ltb (length marking) (marking_length (wide_in file)) ≡ false
        enough = sym (room-for_lem (length marking) least (marking_length (wide_in file)) e l)

        pub finish-narrow : room < 4 → finished_by BufferTooSmall [] ≡ finish_in file marking room
        unfolding non
        finish-narrow k = choice true false true (n) enough (lt-ltb room 4 k)

        found : 4 ≤ room → finish_of (read_of file).graph (marking_from (wide_in file) marking) ≡ finish_in file marking room
        unfolding non
        found k = choice true false false (n) enough (le-ltb room 4 k)

-- reading has judged the graph
pub finish-searched : (file : List ℕ) → Bytes file → (marking : List ℕ) (room : ℕ) (r : Bare) (d : Bool) → r ≡ bare_of file → d ≡ is_done r.answer
    → (tables : List ℕ) → tables ≡ bare_tables file (no_tables relation_count)
    → (m : Marking) (f : Finished) → d ≡ true → (least : ℕ) → least ≡ marking_length (wide_in file) → least ≤ length marking → 4 ≤ room
    → m ≡ marking_from (wide_in file) marking → f ≡ finish_on r.events (in_tables tables) m → f ≡ finish_in file marking room
finish-searched file small marking room r d hr hd tables ht m f n least e l k hm hf =
    hf
    ∙ ap (finish_on r.events (in_tables tables)) hm
    ∙ bare-graph file r hr d hd n tables ht (λ E R. finish_on E R (marking_from (wide_in file) marking))
    ∙ sym (finish-on_lem (read_of file).graph (read-judged file r hr d hd n small) (marking_from (wide_in file) marking))
    ∙ found file marking room r d hr hd n least e l k

pub ruleset finding = (finish-refused, finish-short, finish-narrow)

-- ---- the call at a place

module _ (file table : List ℕ) (p room : ℕ) where
  -- what is given where the place or the file is refused or not, and where the room is short or not
  abbrev chosen_at : Bool → Bool → Finished
  chosen_at d narrow =
      when non d then finished_by (before_place file table p) []
      else when narrow then finished_by BufferTooSmall []
      else finished_at (read_of file).graph table p

  by_both : (d narrow : Bool) → is_done (before_place file table p) ≡ d → ltb room 4 ≡ narrow → chosen_at d narrow ≡ desk_finish_in file table p room
  unfolding desk_finish_in
  by_both d narrow e l = sym (ap₂ chosen_at e l)

  refused-there : (a : Answer) → a ≡ before_place file table p → is_done a ≡ false → finished_by a [] ≡ desk_finish_in file table p room
  unfolding non
  refused-there a same e = ap (λ (x : Answer). finished_by x []) same ∙ by_both false _ (ap is_done (sym same) ∙ e) refl

  module _ (w : Bool) (hw : w ≡ wide_in file) (b : Answer) (d : Bool) (told : b ≡ place_answer w table p) (hd : d ≡ is_done b) where
    pub no-such-call : d ≡ false → finished_by b [] ≡ desk_finish_in file table p room
    no-such-call t = refused-there b (the-place file table p w hw b d told hd t) (sym hd ∙ t)

    module _ (t : d ≡ true) (r : Bare) (f : Bool) (hr : r ≡ bare_of file) (hf : f ≡ is_done r.answer) where
      pub no-graph-there : f ≡ false → finished_by r.answer [] ≡ desk_finish_in file table p room
      no-graph-there u =
          refused-there r.answer (the-file-then file table p w hw b d told hd t r.answer f (bare-answer file r hr) hf) (sym hf ∙ u)

      module _ (u : f ≡ true) where
        before : is_done (before_place file table p) ≡ true
        before = asked file table p w hw b d told hd t r.answer f (bare-answer file r hr) hf u

        pub narrow-there : room < 4 → finished_by BufferTooSmall [] ≡ desk_finish_in file table p room
        unfolding non
        narrow-there k = by_both true true before (lt-ltb room 4 k)

        searched : Bytes file → (tables : List ℕ) → tables ≡ bare_tables file (no_tables relation_count) → (x : Finished) → 4 ≤ room
            → x ≡ finished_on w r.events (in_tables tables) table p → x ≡ desk_finish_in file table p room
        unfolding non
        searched small tables ht x k e =
            e
            ∙ bare-formed file r hr f hf u tables ht (λ v E R. finished_on v E R table p) w hw
            ∙ sym (finished-on_lem (read_of file).graph (read-judged file r hr f hf u small) table p)
            ∙ by_both true false before (le-ltb room 4 k)

pub searched-there : (file : List ℕ) → Bytes file → (table : List ℕ) (p room : ℕ) (w : Bool) → w ≡ wide_in file → (b : Answer) (d : Bool)
    → b ≡ place_answer w table p → d ≡ is_done b → d ≡ true → (r : Bare) (f : Bool) → r ≡ bare_of file → f ≡ is_done r.answer → f ≡ true
    → (tables : List ℕ) → tables ≡ bare_tables file (no_tables relation_count) → (x : Finished) → 4 ≤ room
    → x ≡ finished_on w r.events (in_tables tables) table p → x ≡ desk_finish_in file table p room
searched-there file small table p room w hw b d told hd t r f hr hf u tables ht x k e =
    searched file table p room w hw b d told hd t r f hr hf u small tables ht x k e

pub ruleset finding-there = (no-such-call, no-graph-there, narrow-there)

-- ---- what is left of a search

module _ (f : Finished) (way : List ℕ) (t : Bool) (ht : t ≡ is_done f.answer) where
  abbrev left : Bool → List ℕ
  left b = when b then way_into f.way way else way

  pub way-given : (way' : List ℕ) → t ≡ true → way' ≡ way_into f.way way → way' ≡ way_after f way
  unfolding way_after
  way-given way' y e = e ∙ ap left (sym (y) ∙ ht)

  pub way-kept : t ≡ false → way ≡ way_after f way
  unfolding way_after
  way-kept y = ap left (sym (y) ∙ ht)

pub ruleset leaving = (way-given, way-kept)

-- the same search, its number and its bytes
module _ (f g : Finished) (same : f ≡ g) where
  pub number-of-same : (n : ℕ) → n ≡ number_of f.answer → n ≡ number_of g.answer
  number-of-same n e = e ∙ ap (λ (x : Finished). number_of x.answer) same

  pub way-of-same : (way way' : List ℕ) → way' ≡ way_after f way → way' ≡ way_after g way
  way-of-same way way' e = e ∙ ap (λ (x : Finished). way_after x way) same

pub ruleset finishing = (number-of-same, way-of-same)

-- ---- what shut a step out

module _ (file trace : List ℕ) (a : ℕ) (r : Reading) (d : Bool) (hr : r ≡ read_of file) (hd : d ≡ is_done r.answer) where
  abbrev packed_where : Bool → ℕ
  packed_where t = packed_of (read_of file).answer (when t then shut_by (relations_of (read_of file).graph) trace a else nothing)

  tested-read : (t : Bool) → d ≡ t → is_done (read_of file).answer ≡ t
  tested-read t e = sym (ap (λ (x : Reading). is_done x.answer) hr) ∙ sym hd ∙ e

  pub shut-refused : (n : ℕ) → d ≡ false → n ≡ packed_of r.answer 255 → n ≡ shut_number file trace a
  unfolding shut_number
  shut-refused n t e = e ∙ ap (λ (x : Reading). packed_of x.answer 255) hr ∙ sym (ap packed_where (tested-read false (t)))

  pub shut-told : (n by : ℕ) → d ≡ true → by ≡ shut_by (relations_of r.graph) trace a → n ≡ packed_of r.answer by
      → n ≡ shut_number file trace a
  unfolding shut_number
  shut-told n by t h e =
      e
      ∙ ap (packed_of r.answer) h
      ∙ ap (λ (x : Reading). packed_of x.answer (shut_by (relations_of x.graph) trace a)) hr
      ∙ sym (ap packed_where (tested-read true (t)))

pub ruleset shut_out = (shut-refused, shut-told)
