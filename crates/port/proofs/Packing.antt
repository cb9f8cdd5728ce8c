-- What the port's calls ensure, put together. Assumes nothing.
use mathlib.Core.Path.{◌≡◌, refl, sym, ap, ap₂, ◌∙◌}
use mathlib.Core.Bool.{Bool, true, false}
use mathlib.Core.List.{List}
use Prim.Native.Nat.{ℕ, ◌+◌, ◌*◌, ◌%◌, ◌^◌, ◌≤◌, ◌<◌}
use native.Mathlib.Omega.{arith}
use borrow.Author.Tests.{eq-eqb, ne_eqb, lt-ltb, le-ltb}
use lib.Dec.{ltb}
use lib.ListN.{length}
use Rattle.sets.specs.Tests.{non, when◌then◌else◌}
use Rattle.sets.specs.Answers.{number_of, blocker_of, is_done, then_ask}
use Rattle.sets.specs.declared.answer.Answer.{Answer}
use Rattle.sets.specs.declared.answer.Answer.TheVariants.{Done, AboveLimit, BufferTooSmall, WrongArgument}
use Rattle.sets.specs.Sizes.{longest_trace}
use Rattle.sets.proofs.Asking.{done-is, ask-stop}
use Rattle.sets.specs.Tables.{no_tables}
use Rattle.engine.specs.Relations.{relation_count, in_tables, graph_of, empty_graph}
use Rattle.engine.specs.Few.{gains_for, state_for}
use Rattle.engine.specs.Replay.{walked_of, replay_from, replay_of, stepped_of, stepped_on}
use Rattle.engine.proofs.Acceptable.{stepped-on_lem, replay-judged, replay-long, empty-judged}
use Rattle.engine.specs.Judged.{judged}
use Rattle.engine.specs.declared.marking.Marking.{Marking}
use Rattle.engine.specs.declared.step.Stepped.{Stepped}
use Rattle.engine.specs.declared.graph.Graph.{Graph}
use Rattle.engine.specs.declared.replay.Replayed.{Replayed}
use Rattle.engine.specs.declared.replay.Walked.{Walked}
use Rattle.graphfile.specs.Held.{bare_of, bare_tables, read_of, graph_in}
use Rattle.octets.proofs.Codec.{Bytes}
use Rattle.graphfile.specs.Writing.{written_of, file_after, unjudged_of, unjudged_after}
use Rattle.graphfile.specs.Refusals.{judged_file}
use Rattle.graphfile.proofs.RoundTrips.{file-graph}
use Rattle.graphfile.proofs.Writes.{unjudged-written, unjudged-after_lem}
use Rattle.graphfile.specs.declared.reader.Reading.{Reading}
use Rattle.graphfile.specs.declared.reader.Bare.{Bare}
use Rattle.graphfile.specs.declared.writer.Written.{Written}
use Rattle.octets.specs.Editions.{wide_in}
use Rattle.graphfile.specs.Markings.{marking_length, marking_from, marking_into}
use Rattle.rules.specs.declared.Profile.{Profile}
use Rattle.rules.specs.declared.Profile.TheVariants.{Full, Light}
use Rattle.miner.specs.Mine.{headed_of, mined_of}
use Rattle.miner.specs.declared.mining.Headed.{Headed}
use Rattle.miner.proofs.FromLog.{whole_by}
use Rattle.miner.specs.declared.mining.Mined.{Mined}
use Rattle.miner.proofs.Given.{mined-judged}
use Rattle.report.specs.declared.writer.Listed.{Listed}
use Rattle.port.specs.Port.{packed_of, verdict_of, blocked_of, step_number, stored_of, put_number, put_buffer, profile_of, in_profile, in_profile_buffer}
use Rattle.port.specs.Port.{replay_number, refused_step, step_of, opening_answer, opening_bytes}
use Rattle.port.proofs.Lending.{short-of, room-for_lem}
use Rattle.port.proofs.BareReading.{bare-answer, file-done, bare-events, bare-state, bare-relations, bare-graph, bare-walk, read-judged}

pub packed-is : (a : Answer) (n low : ℕ) → low ≡ number_of a → low + 256 * (n % 16777216) ≡ packed_of a n
unfolding packed_of
packed-is a n low e = ap (λ (x : ℕ). x + 256 * (n % 16777216)) e

-- the remainder takes nothing away from what has its 24 bits, as every length and place here has
pub packed-plain : (a : Answer) (n : ℕ) → n < 2 ^ 24 → packed_of a n ≡ number_of a + 256 * n
unfolding packed_of
packed-plain a n l = let small : n < 16777216 = l in let same : n % 16777216 ≡ n = omega arith in ap (λ (x : ℕ). number_of a + 256 * x) same

-- the same where accepting, and where not
module _ (a : Answer) (n low : ℕ) (t : Bool) (e : low ≡ packed_of a n) where
  pub verdict-yes : t ≡ true → low + 4294967296 ≡ verdict_of a n t
  unfolding verdict_of
  verdict-yes y = ap₂ (λ (x : ℕ) (b : Bool). x + (when b then 2 ^ 32 else 0)) e (sym y)

  pub verdict-no : t ≡ false → low ≡ verdict_of a n t
  unfolding verdict_of
  verdict-no y = let same : low ≡ low + 0 = omega arith in same ∙ ap₂ (λ (x : ℕ) (b : Bool). x + (when b then 2 ^ 32 else 0)) e (sym y)

pub blocked-is : (a : Answer) (n low b : ℕ) (t : Bool) → low ≡ verdict_of a n t → b ≡ blocker_of a → low + 1099511627776 * b ≡ blocked_of a n t
unfolding blocked_of
blocked-is a n low b t e h = ap₂ (λ (x y : ℕ). x + 1099511627776 * y) e h

-- ---- a graph written

module _ (a : Answer) (g : Graph) (out : List ℕ) (r : Bool) (hr : r ≡ is_done a) where
  pub put_refused : (n : ℕ) → r ≡ false → n ≡ packed_of a 0 → n ≡ put_number a g (length out)
  unfolding put_number
  put_refused n h e = e ∙ sym (ap (λ (t : Bool). when t then packed_of (written_of g (length out)).answer (written_of g (length out)).length else packed_of a 0) (sym hr ∙ h))

  pub put-kept : r ≡ false → out ≡ put_buffer a g out
  unfolding put_buffer
  put-kept h = sym (ap (λ (t : Bool). when t then file_after g out else out) (sym hr ∙ h))

  pub put-done : (n : ℕ) (w : Written) → judged g ≡ Done → r ≡ true → w ≡ unjudged_of g (length out) → n ≡ packed_of w.answer w.length
      → n ≡ put_number a g (length out)
  unfolding put_number
  put-done n w ok h hw e =
      e
      ∙ ap (λ (x : Written). packed_of x.answer x.length) (hw ∙ unjudged-written g out ok)
      ∙ sym (ap (λ (t : Bool). when t then packed_of (written_of g (length out)).answer (written_of g (length out)).length else packed_of a 0) (sym hr ∙ h))

  pub put-filled : (out' : List ℕ) → judged g ≡ Done → r ≡ true → out' ≡ unjudged_after g out → out' ≡ put_buffer a g out
  unfolding put_buffer
  put-filled out' ok h e = e ∙ unjudged-after_lem g out ok ∙ sym (ap (λ (t : Bool). when t then file_after g out else out) (sym hr ∙ h))

pub ruleset putting = (put_refused, put-kept, put-done, put-filled)

-- ---- of a mined log, of a file that was read

module _ (log : List ℕ) (p : Profile) (m : Headed) (t : List ℕ) (hm : m ≡ headed_of log p) (ht : t ≡ (mined_of log p).graph.relations) where
  pub mined-number : (n space : ℕ) → n ≡ put_number m.answer (graph_of m.head t) space
      → n ≡ put_number (mined_of log p).answer (mined_of log p).graph space
  mined-number n space h = h ∙ ap (λ (x : Mined). put_number x.answer x.graph space) (whole_by log p m t hm ht)

  pub mined-buffer : (out out' : List ℕ) → out' ≡ put_buffer m.answer (graph_of m.head t) out
      → out' ≡ put_buffer (mined_of log p).answer (mined_of log p).graph out
  mined-buffer out out' h = h ∙ ap (λ (x : Mined). put_buffer x.answer x.graph out) (whole_by log p m t hm ht)

  -- a judge would not refuse it
  pub mined-ok : judged (graph_of m.head t) ≡ Done
  mined-ok = ap (λ (x : Mined). judged x.graph) (whole_by log p m t hm ht) ∙ mined-judged log p

module _ (r r' : Reading) (e : r ≡ r') where
  pub read_number : (n space : ℕ) → n ≡ put_number r.answer r.graph space → n ≡ put_number r'.answer r'.graph space
  read_number n space h = h ∙ ap (λ (x : Reading). put_number x.answer x.graph space) e

  pub read-buffer : (out out' : List ℕ) → out' ≡ put_buffer r.answer r.graph out → out' ≡ put_buffer r'.answer r'.graph out
  read-buffer out out' h = h ∙ ap (λ (x : Reading). put_buffer x.answer x.graph out) e

-- nor one that was read
pub read_ok : (file : List ℕ) (r : Reading) → Bytes file → r ≡ read_of file → judged r.graph ≡ Done
unfolding read_of
read_ok file r small e = ap (λ (x : Reading). judged x.graph) e ∙ by (is_done (judged_file file)) refl
  where
    by : (b : Bool) → is_done (judged_file file) ≡ b → judged (when b then graph_in file else empty_graph) ≡ Done
    by true h = file-graph file small (done-is (judged_file file) h)
    by false h = empty-judged

pub ruleset carrying = (mined-number, mined-buffer, read_number, read-buffer)

pub listing-number_lem : (m m' : Listed) (n : ℕ) → m ≡ m' → n ≡ packed_of m.answer m.length → n ≡ packed_of m'.answer m'.length
listing-number_lem m m' n e h = h ∙ ap (λ (x : Listed). packed_of x.answer x.length) e

-- ---- a profile by its number

pub the-full : (n : ℕ) → n ≡ 0 → Full ≡ profile_of n
the-full n e = sym (ap (λ (b : Bool). when b then Full else Light) (eq-eqb n 0 e))

pub the-light : (n : ℕ) → (n ≡ 0 → ⊥) → Light ≡ profile_of n
the-light n e = sym (ap (λ (b : Bool). when b then Full else Light) (ne_eqb n 0 e))

pub no-profile : (n r : ℕ) (f : Profile → ℕ) → 1 < n → r ≡ packed_of WrongArgument 0 → r ≡ in_profile n f
unfolding in_profile
no-profile n r f l h = h ∙ sym (ap (λ (b : Bool). when b then packed_of WrongArgument 0 else f (profile_of n)) (lt-ltb 1 n l))

pub no_change : (n : ℕ) (f : Profile → List ℕ → List ℕ) (out : List ℕ) → 1 < n → out ≡ in_profile_buffer n f out
unfolding in_profile_buffer
no_change n f out l = sym (ap (λ (b : Bool). when b then out else f (profile_of n) out) (lt-ltb 1 n l))

module _ (n : ℕ) (p : Profile) (low : n ≤ 1) (e : p ≡ profile_of n) where
  pub in-profile_lem : (r : ℕ) (f : Profile → ℕ) → r ≡ f p → r ≡ in_profile n f
  unfolding in_profile
  in-profile_lem r f h = h ∙ ap f e ∙ sym (ap (λ (b : Bool). when b then packed_of WrongArgument 0 else f (profile_of n)) (le-ltb 1 n low))

  pub in_buffer : (f : Profile → List ℕ → List ℕ) (out out' : List ℕ) → out' ≡ f p out → out' ≡ in_profile_buffer n f out
  unfolding in_profile_buffer
  in_buffer f out out' h =
      h ∙ ap (λ (q : Profile). f q out) e ∙ sym (ap (λ (b : Bool). when b then out else f (profile_of n) out) (le-ltb 1 n low))

pub number-as : (a a' : Answer) (r : ℕ) → a ≡ a' → r ≡ number_of a → r ≡ number_of a'
number-as a a' r e h = h ∙ ap number_of e

pub ruleset profiles = (no-profile, no_change, in-profile_lem, in_buffer, number-as)

-- ---- a replay

module _ (file trace : List ℕ) (r : Bare) (hr : r ≡ bare_of file) (d : Bool) (hd : d ≡ is_done r.answer) where
  abbrev shown : Bool → ℕ
  shown t =
      when t then
      blocked_of (replay_of (read_of file).graph trace).answer (replay_of (read_of file).graph trace).place.0
      (replay_of (read_of file).graph trace).accepting
      else blocked_of (read_of file).answer 0 false

  pub replay-refused : (n : ℕ) → d ≡ false → n ≡ blocked_of r.answer 0 false → n ≡ replay_number file trace
  unfolding replay_number
  replay-refused n h e =
      e ∙ ap (λ (x : Answer). blocked_of x 0 false) (bare-answer file r hr) ∙ sym (ap shown (file-done file r hr d hd false (h)))

  abbrev said : Walked → ℕ
  said x = blocked_of x.answer x.place.0 x.accepting

  pub replay-too-long : (n : ℕ) → d ≡ true → longest_trace < length trace → n ≡ blocked_of AboveLimit 0 false → n ≡ replay_number file trace
  unfolding replay_number
  replay-too-long n h l e =
      e
      ∙ ap (λ (x : Replayed). said (walked_of x)) (sym (replay-long (read_of file).graph trace l))
      ∙ sym (ap shown (file-done file r hr d hd true (h)))

  pub replay-run : (n : ℕ) (h : d ≡ true) → Bytes file → (tables : List ℕ) → tables ≡ bare_tables file (no_tables relation_count)
      → length trace ≤ longest_trace → (w : Bool) → w ≡ wide_in file
      → (p : Walked) → p ≡ walked_of (replay_from r.events (gains_for w (in_tables tables)) (state_for w r.state) 0 trace) → n ≡ said p
      → n ≡ replay_number file trace
  unfolding replay_number
  replay-run n h small tables ht l w hw p hp e =
      e
      ∙ ap said
      (hp
      ∙ ap walked_of (bare-walk file r hr d hd h small tables ht w hw trace)
      ∙ (λ j.
      walked_of
      (replay_from (bare-events file r hr d hd h j) (in_tables (bare-relations file r hr d hd h tables ht j)) (bare-state file r hr d hd h j) 0 trace))
      ∙ ap walked_of (sym (replay-judged (read_of file).graph (read-judged file r hr d hd h small) trace l)))
      ∙ sym (ap shown (file-done file r hr d hd true (h)))

pub ruleset replaying = (replay-refused, replay-too-long)

-- ---- a step

module _ (file bytes : List ℕ) (a : ℕ) where
  -- what it gives where the file is refused or not, and where the marking is short or not
  abbrev chosen : Bool → Bool → Stepped
  chosen d short =
      when non d then refused_step (read_of file).answer
      else when short then refused_step BufferTooSmall
      else stepped_of (read_of file).graph (marking_from (wide_in file) bytes) a

  module _ (r : Bare) (d : Bool) (hr : r ≡ bare_of file) (hd : d ≡ is_done r.answer) where
    choice : (t short : Bool) → d ≡ t → ltb (length bytes) (marking_length (wide_in file)) ≡ short → chosen t short ≡ step_of file bytes a
    unfolding step_of
    choice t short e l = sym (ap₂ chosen (file-done file r hr d hd t e) l)

    pub step-refused : d ≡ false → refused_step r.answer ≡ step_of file bytes a
    unfolding non
    step-refused n = ap refused_step (bare-answer file r hr) ∙ choice false _ (n) refl

    pub step-short : (room : ℕ) → d ≡ true → room ≡ marking_length (wide_in file) → length bytes < room
        → refused_step BufferTooSmall ≡ step_of file bytes a
    unfolding non
    step-short room n e l = choice true true (n) (sym (short-of (length bytes) room (marking_length (wide_in file)) e l))

-- reading has judged the graph
pub step-taken : (file : List ℕ) → Bytes file → (bytes : List ℕ) (a : ℕ) (r : Bare) (d : Bool) → r ≡ bare_of file → d ≡ is_done r.answer
    → (tables : List ℕ) → tables ≡ bare_tables file (no_tables relation_count)
    → (m : Marking) (s : Stepped) (room : ℕ) → d ≡ true → room ≡ marking_length (wide_in file) → room ≤ length bytes
    → m ≡ marking_from (wide_in file) bytes
    → s ≡ stepped_on r.events (in_tables tables) m a → s ≡ step_of file bytes a
unfolding non
step-taken file small bytes a r d hr hd tables ht m s room n e l hm hs =
    hs
    ∙ ap (λ (x : Marking). stepped_on r.events (in_tables tables) x a) hm
    ∙ bare-graph file r hr d hd n tables ht (λ E R. stepped_on E R (marking_from (wide_in file) bytes) a)
    ∙ sym (stepped-on_lem (read_of file).graph (read-judged file r hr d hd n small) (marking_from (wide_in file) bytes) a)
    ∙ choice file bytes a r d hr hd true false (n) (sym (room-for_lem (length bytes) room (marking_length (wide_in file)) e l))

-- of any step that gives s
module _ (s x : Stepped) (hs : s ≡ x) where
  pub stored : (w v : Bool) (bytes bytes' : List ℕ) → w ≡ v → bytes' ≡ stored_of w s bytes → bytes' ≡ stored_of v x bytes
  stored w v bytes bytes' hw e = e ∙ (λ i. stored_of (hw i) (hs i) bytes)

  pub step-number_lem : (n : ℕ) → n ≡ step_number s → n ≡ step_number x
  step-number_lem n e = e ∙ ap step_number hs

pub ruleset stepping = (step-short, step-refused, stored, step-number_lem)

-- ---- the opening marking

module _ (file bytes : List ℕ) (r : Reading) (d : Bool) (hr : r ≡ read_of file) (hd : d ≡ is_done r.answer) where
  abbrev asked : Answer → Bool → Answer
  asked a short = then_ask a (when short then BufferTooSmall else Done)

  -- the answer by the file's own and by whether there is room
  opens : (a : Answer) (short : Bool) → (read_of file).answer ≡ a → ltb (length bytes) (marking_length (wide_in file)) ≡ short
      → opening_answer file (length bytes) ≡ asked a short
  unfolding opening_answer
  opens a short ha hs = ap₂ asked ha hs

  left : (a : Answer) → opening_answer file (length bytes) ≡ a
      → (when is_done a then marking_into (wide_in file) (read_of file).graph.head.opening bytes else bytes) ≡ opening_bytes file bytes
  unfolding opening_bytes
  left a e = ap (λ (x : Answer). when is_done x then marking_into (wide_in file) (read_of file).graph.head.opening bytes else bytes) (sym e)

  module _ (n : d ≡ false) where
    refused : opening_answer file (length bytes) ≡ r.answer
    unfolding opening_answer
    refused =
        ap (λ (x : Reading). then_ask x.answer (when ltb (length bytes) (marking_length (wide_in file)) then BufferTooSmall else Done)) (sym hr)
        ∙ ask-stop r.answer _ (sym hd ∙ n)

    pub opening-refused : (k : ℕ) → k ≡ number_of r.answer → k ≡ number_of (opening_answer file (length bytes))
    opening-refused k e = e ∙ ap number_of (sym refused)

    pub opening-kept : bytes ≡ opening_bytes file bytes
    opening-kept =
        ap (λ (t : Bool). when t then marking_into (wide_in file) (read_of file).graph.head.opening bytes else bytes) (sym (sym hd ∙ n))
        ∙ left r.answer refused

  module _ (n : d ≡ true) where
    read : (read_of file).answer ≡ Done
    read = ap (λ (x : Reading). x.answer) (sym hr) ∙ done-is r.answer (sym hd ∙ n)

    module _ (room : ℕ) (enough : room ≡ marking_length (wide_in file)) (l : length bytes < room) where
      few : opening_answer file (length bytes) ≡ BufferTooSmall
      few = opens Done true read (sym (short-of (length bytes) room (marking_length (wide_in file)) enough l))

      pub opening-short : (k : ℕ) → k ≡ number_of BufferTooSmall → k ≡ number_of (opening_answer file (length bytes))
      opening-short k e = e ∙ ap number_of (sym few)

      pub opening-short-kept : bytes ≡ opening_bytes file bytes
      opening-short-kept = left BufferTooSmall few

    module _ (room : ℕ) (enough : room ≡ marking_length (wide_in file)) (l : room ≤ length bytes) where
      roomy : opening_answer file (length bytes) ≡ Done
      roomy = opens Done false read (sym (room-for_lem (length bytes) room (marking_length (wide_in file)) enough l))

      pub opening-number : (k : ℕ) → k ≡ number_of r.answer → k ≡ number_of (opening_answer file (length bytes))
      opening-number k e = e ∙ ap number_of (ap (λ (x : Reading). x.answer) hr ∙ read ∙ sym roomy)

      pub opening-given : (w : Bool) (bytes' : List ℕ) → w ≡ wide_in file → bytes' ≡ marking_into w r.graph.head.opening bytes
          → bytes' ≡ opening_bytes file bytes
      opening-given w bytes' hw e = e ∙ (λ i. marking_into (hw i) (hr i).graph.head.opening bytes) ∙ left Done roomy

pub ruleset beginning = (opening-refused, opening-kept, opening-short, opening-short-kept, opening-number, opening-given)
