-- The way out at a place is that of the place's own call, after every history (02, 8/12). Assumes nothing.
use mathlib.Core.Path.{◌≡◌, ap, ◌∙◌}
use mathlib.Core.Bool.{Bool, false}
use mathlib.Core.List.{List, []}
use Prim.Native.Nat.{ℕ, ◌≤◌}
use borrow.Author.Tests.{le-ltb}
use lib.Dec.{ltb}
use lib.ListN.{length}
use Rattle.sets.specs.Tests.{non, when◌then◌else◌}
use Rattle.sets.specs.declared.set.Set.{Set}
use Rattle.sets.specs.declared.answer.Answer.TheVariants.{BufferTooSmall, NotOpen}
use Rattle.engine.specs.declared.marking.Marking.{Marking}
use Rattle.engine.specs.declared.graph.Graph.{Graph}
use Rattle.graphfile.proofs.LoneMarkings.{WholeMarking}
use Rattle.engine.specs.Relations.{Relations}
use Rattle.finish.specs.Ways.{finished_by, finish_of, finish_on}
use Rattle.finish.specs.declared.search.Finished.{Finished}
use Rattle.desk.specs.Places.{table_length, is_open, marking_at_place, SameAt}
use Rattle.desk.specs.Desk.{form_of}
use Rattle.desk.specs.Histories.{Request, Fresh, Call, none, since, table_after, call_at}
use Rattle.desk.specs.WayOut.{finished_at, finish_by}
use Rattle.desk.proofs.Isolation.{HoldsAt, history-holds}

-- what the code was given at the marking that it read, in the form that it went by
module _ (g : Graph) (wide : Bool) (same : wide ≡ form_of g) (table : List ℕ) (p : ℕ) where
  abbrev finished : Bool → Finished
  finished w =
      when ltb (length table) (table_length w) then finished_by BufferTooSmall []
      else when non (is_open w table p) then finished_by NotOpen []
      else finish_of g (marking_at_place w table p)

  pub finished-formed : (f : Finished) → f ≡ finished wide → f ≡ finished_at g table p
  unfolding finished_at
  finished-formed f e = e ∙ ap finished same

  pub found_at : (m : Marking) (f : Finished) → m ≡ marking_at_place wide table p → f ≡ finish_of g m → f ≡ finish_of g (marking_at_place wide table p)
  found_at m f here e = e ∙ ap (finish_of g) here

pub found-on : (events : Set) (r : Relations) (m m' : Marking) (f : Finished) → m ≡ m' → f ≡ finish_on events r m → f ≡ finish_on events r m'
found-on events r m m' f same e = e ∙ ap (finish_on events r) same

module _ (g : Graph) where
  abbrev form : Bool
  form = form_of g

  -- a table that is the same at the place
  pub finish-same : (p : ℕ) (table table' : List ℕ) → SameAt form p table table' → finished_at g table' p ≡ finished_at g table p
  unfolding finished_at
  finish-same p table table' same i =
      when ltb (same.long i) (table_length form) then finished_by BufferTooSmall []
      else when non (same.opens i) then finished_by NotOpen []
      else finish_of g (same.marking i)

  -- a table of enough bytes that holds a call at the place
  module _ (table : List ℕ) (long : table_length form ≤ length table) (p : ℕ) where
    abbrev given : Bool → Bool → Finished
    given short there =
        when short then finished_by BufferTooSmall [] else when non there then finished_by NotOpen [] else finish_of g (marking_at_place form table p)

    pub finish-says : (c : Call) → HoldsAt g table p c → finished_at g table p ≡ finish_by g c
    unfolding finished_at finish_by non
    finish-says none h = ap (λ (t : Bool). given t (is_open form table p)) (le-ltb (length table) (table_length form) long) ∙ ap (given false) h
    finish-says (since past) h =
        ap (λ (t : Bool). given t (is_open form table p)) (le-ltb (length table) (table_length form) long) ∙ ap (given false) h.0 ∙ ap (finish_of g) h.1

  -- ISOLATION: what is given at a place is what the graph and the place's own call say
  pub finish-own : WholeMarking g.head.opening → (table : List ℕ) → Fresh (form_of g) table → (history : List Request) (p : ℕ)
      → finished_at g (table_after g table history) p ≡ finish_by g (call_at g history p)
  finish-own whole table fresh history p =
      let h = history-holds g whole table fresh history in
      finish-says (table_after g table history) h.long p (call_at g history p) (h.each p)
