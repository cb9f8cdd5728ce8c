-- One outcome: for every public function the theorem that two outcomes which its contract allows are equal. Assumes nothing.
--
-- `Post κ a r s` is a function's own contract, as the checker reads it off the source: what the result r, and at exit the arguments s, must
-- meet when it is called with a. (κ are the lifetimes of what is lent.) No definition is repeated here, so a contract that says less, or
-- nothing, is refused at its theorem. No public function has a `requires`. Each theorem is called after its function.
use mathlib.Core.Path.{◌≡◌, sym, ap, ◌∙◌}
use Rattle.sets.specs.declared.activity.Activity.{Activity}
use Rattle.sets.specs.declared.each.Members.{Members}
use Rattle.sets.proofs.Passing.{gives-once}
use Rattle.sets.proofs.activity.ActivityPartialEq.eq.Reads as ActivityPartialEq-eq
use Rattle.sets.proofs.activity.ActivityPartialOrd.partial_cmp.Reads as ActivityPartialOrd-partial-cmp
use Rattle.sets.proofs.activity.ActivityOrd.cmp.Reads as ActivityOrd-cmp
use Rattle.sets.proofs.activity.PlacePartialEq.eq.Reads as PlacePartialEq-eq
use Rattle.sets.proofs.activity.PlacePartialOrd.partial_cmp.Reads as PlacePartialOrd-partial-cmp
use Rattle.sets.proofs.activity.PlaceOrd.cmp.Reads as PlaceOrd-cmp
use Rattle.sets.proofs.answer.Answer.number.Reads as Answer-number
use Rattle.sets.proofs.answer.Answer.blocker.Reads as Answer-blocker
use Rattle.sets.proofs.answer.Answer.is_done.Reads as Answer-is-done
use Rattle.sets.proofs.set.SetPartialEq.eq.Reads as SetPartialEq-eq
use Rattle.sets.proofs.set.Set.one.Reads as Set-one
use Rattle.sets.proofs.set.Set.one_if.Reads as Set-one-if
use Rattle.sets.proofs.set.Set.below.Reads as Set-below
use Rattle.sets.proofs.set.Set.has.Reads as Set-has
use Rattle.sets.proofs.set.Set.union.Reads as Set-union
use Rattle.sets.proofs.set.Set.intersection.Reads as Set-intersection
use Rattle.sets.proofs.set.Set.difference.Reads as Set-difference
use Rattle.sets.proofs.set.Set.complement.Reads as Set-complement
use Rattle.sets.proofs.set.Set.is_empty.Reads as Set-is-empty
use Rattle.sets.proofs.set.Set.is_within.Reads as Set-is-within
use Rattle.sets.proofs.set.Set.count.Reads as Set-count
use Rattle.sets.proofs.set.Set.least.Reads as Set-least
use Rattle.sets.proofs.set.Set.without_least.Reads as Set-without-least
use Rattle.sets.proofs.set.Set.members.Reads as Set-members
use Rattle.sets.proofs.each.MembersIterator.next.Reads as MembersIterator-next
use Rattle.sets.proofs.each.MembersIterator.size_hint.Reads as MembersIterator-size-hint
use Rattle.sets.proofs.set.Set.next.Reads as Set-next
use Rattle.sets.proofs.set.Set.end.Reads as Set-end
use Rattle.sets.proofs.rows.empty.Reads as empty
use Rattle.sets.proofs.rows.row.Reads as row
use Rattle.sets.proofs.rows.put.Reads as put
use Rattle.sets.proofs.rows.join.Reads as join
use Rattle.sets.proofs.rows.lose.Reads as lose
use Rattle.sets.proofs.rows.turned.Reads as turned
use Rattle.sets.proofs.tables.row.Reads as tables-row
use Rattle.sets.proofs.tables.put.Reads as tables-put
use Rattle.sets.proofs.tables.join.Reads as tables-join
use Rattle.sets.proofs.tables.put_rows.Reads as tables-put-rows
use Rattle.sets.proofs.tables.taken.Reads as tables-taken
use Rattle.octets.proofs.room.too_few.Reads as too-few_lem
use Rattle.octets.proofs.opening.opens_with.Reads as opens-with
use Rattle.octets.proofs.number.byte_at.Reads as byte_at
use Rattle.octets.proofs.number.number_at.Reads as number_at
use Rattle.octets.proofs.number.put_number.Reads as put-number
use Rattle.octets.proofs.set.set_at.Reads as set_at
use Rattle.octets.proofs.set.put_set.Reads as put-set
use Rattle.octets.proofs.set.length.Reads as set-length
use Rattle.octets.proofs.edition.edition_for.Reads as edition-for
use Rattle.octets.proofs.edition.edition_in.Reads as edition-in
use Rattle.octets.proofs.edition.opens_file.Reads as opens-file
use Rattle.octets.proofs.edition.is_beyond.Reads as is-beyond
use Rattle.engine.proofs.marking.StatePartialEq.eq.Reads as StatePartialEq-eq
use Rattle.engine.proofs.marking.MarkingPartialEq.eq.Reads as MarkingPartialEq-eq
use Rattle.engine.proofs.marking.State.of.Reads as State-of
use Rattle.engine.proofs.marking.State.opening.Reads as State-opening
use Rattle.engine.proofs.enabled.enabled_set.Reads as enabled-set
use Rattle.engine.proofs.enabled.marked.Reads as marked
use Rattle.engine.proofs.enabled.is_true.Reads as is_true
use Rattle.engine.proofs.judge.any_above.Reads as any-above
use Rattle.engine.proofs.judge.found.Reads as found
use Rattle.engine.proofs.graph.Graph.empty.Reads as Graph-empty
use Rattle.engine.proofs.judge.state_within.Reads as state-within
use Rattle.engine.proofs.judge.rows_within.Reads as rows-within_lem
use Rattle.engine.proofs.judge.judge_for.Reads as judge-for
use Rattle.engine.proofs.judge.judge_beside.Reads as judge-beside
use Rattle.engine.proofs.judge.judge_marking.Reads as judge-marking
use Rattle.engine.proofs.step.ask.Reads as ask
use Rattle.engine.proofs.step.next.Reads as next
use Rattle.engine.proofs.step.is_accepting.Reads as is-accepting
use Rattle.engine.proofs.step.ask_judged.Reads as ask-judged
use Rattle.engine.proofs.step.ask_on.Reads as ask-on
use Rattle.engine.proofs.step.enabled.Reads as enabled
use Rattle.engine.proofs.step.step.Reads as step
use Rattle.engine.proofs.step.step_on.Reads as step-on
use Rattle.engine.proofs.step.accepting.Reads as accepting
use Rattle.engine.proofs.replay.walk.Reads as walk
use Rattle.engine.proofs.replay.walk_in.Reads as walk-in
use Rattle.engine.proofs.replay.run.Reads as run
use Rattle.engine.proofs.replay.replay.Reads as replay
use Rattle.engine.proofs.judge.head_within.Reads as head-within
use Rattle.plain.proofs.judge.judge_for.Reads as plain-judge-for
use Rattle.plain.proofs.enabled.marked.Reads as plain-marked
use Rattle.plain.proofs.step.enabled.Reads as plain-enabled
use Rattle.plain.proofs.step.step.Reads as plain_step
use Rattle.plain.proofs.step.accepting.Reads as plain-accepting
use Rattle.plain.proofs.replay.replay.Reads as plain-replay
use Rattle.plain.proofs.fill.fill.Reads as plain-fill
use Rattle.finish.proofs.search.way_out.Reads as way_out
use Rattle.finish.proofs.search.way_out_on.Reads as way-out-on
use Rattle.finish.proofs.search.finish.Reads as finish
use Rattle.finish.proofs.shut.shut_by.Reads as shut_by
use Rattle.calllog.proofs.judge.judge_log.Reads as judge-log
use Rattle.calllog.proofs.judge.all_below.Reads as all-below_lem
use Rattle.calllog.proofs.trace.trace_count.Reads as trace-count
use Rattle.calllog.proofs.trace.trace_part.Reads as trace-part
use Rattle.calllog.proofs.trace.trace_at.Reads as trace-at
use Rattle.calllog.proofs.trace.find_trace.Reads as find-trace
use Rattle.calllog.proofs.trace.ask.Reads as log-ask
use Rattle.graphfile.proofs.reader.read.Reads as read
use Rattle.graphfile.proofs.reader.read_bare.Reads as read-bare
use Rattle.graphfile.proofs.writer.write.Reads as write
use Rattle.graphfile.proofs.writer.write_unjudged.Reads as write-unjudged
use Rattle.graphfile.proofs.head.read_head.Reads as read_head
use Rattle.graphfile.proofs.marking.read_marking_at.Reads as read-marking-at
use Rattle.graphfile.proofs.marking.write_marking_at.Reads as write-marking-at
use Rattle.graphfile.proofs.marking.read_marking.Reads as read-marking
use Rattle.graphfile.proofs.marking.write_marking.Reads as write-marking
use Rattle.graphfile.proofs.marking.length.Reads as marking-length
use Rattle.graphfile.proofs.head.length.Reads as head-length
use Rattle.graphfile.proofs.is_wide.Reads as is_is_wide
use Rattle.graphfile.proofs.wide_for.Reads as wide-for
use Rattle.desk.proofs.requests.judge_place.Reads as desk-judge-place
use Rattle.desk.proofs.table.length.Reads as desk-table-length
use Rattle.desk.proofs.requests.open.Reads as desk-open
use Rattle.desk.proofs.requests.step.Reads as desk-step
use Rattle.desk.proofs.requests.step_on.Reads as desk-step-on
use Rattle.desk.proofs.requests.close.Reads as desk-close
use Rattle.desk.proofs.requests.close_on.Reads as desk-close-on
use Rattle.desk.proofs.way.finish.Reads as desk-finish
use Rattle.desk.proofs.way.finish_on.Reads as desk-finish-on
use Rattle.steps.proofs.relations.unbroken.Reads as unbroken
use Rattle.steps.proofs.relations.excluded_by.Reads as excluded-by
use Rattle.steps.proofs.relations.absent.Reads as absent
use Rattle.steps.proofs.relations.united.Reads as united
use Rattle.steps.proofs.relations.union_of.Reads as union-of
use Rattle.steps.proofs.relations.waited.Reads as waited
use Rattle.steps.proofs.reduce.reduced.Reads as reduced
use Rattle.tally.proofs.log.empty.Reads as log-empty
use Rattle.tally.proofs.in_form.Reads as in-form
use Rattle.tally.proofs.holds.Reads as holds
use Rattle.tally.proofs.log.note_traces_in.Reads as log-note-traces-in
use Rattle.miner.proofs.conditions_eight.Reads as conditions-eight
use Rattle.miner.proofs.excluded_five.Reads as excluded-five
use Rattle.miner.proofs.excludes_six.Reads as excludes-six
use Rattle.miner.proofs.last_places.Reads as last-places
use Rattle.miner.proofs.mining.responses_eight.Reads as responses-eight
use Rattle.miner.proofs.mining.mine.Reads as mine
use Rattle.miner.proofs.mining.mine_into.Reads as mine-into
use Rattle.months.proofs.filling.fill.Reads as months-fill
use Rattle.months.proofs.joining.join.Reads as months-join
use Rattle.months.proofs.reading.relations.Reads as months-relations
use Rattle.marks.proofs.counts.Counts.precision.Reads as Counts-precision
use Rattle.marks.proofs.counts.Counts.recall.Reads as Counts-recall
use Rattle.marks.proofs.counts.Counts.accuracy.Reads as Counts-accuracy
use Rattle.marks.proofs.labels.judge_labels.Reads as judge-labels
use Rattle.marks.proofs.marks.mark.Reads as mark
use Rattle.marks.proofs.marks.mark_guesses.Reads as mark-guesses
use Rattle.marks.proofs.replays.write_replays.Reads as write-replays
use Rattle.report.proofs.choice.choose.Reads as choose
use Rattle.report.proofs.choice.write_refused.Reads as write-refused
use Rattle.report.proofs.marked.write_marks.Reads as write-marks
use Rattle.report.proofs.summary.write_summary.Reads as write-summary
use Rattle.report.proofs.writer.write_listing.Reads as write-listing
use Rattle.port.proofs.skelfora_mine.Reads as skelfora-mine
use Rattle.port.proofs.skelfora_listing.Reads as skelfora-listing
use Rattle.port.proofs.skelfora_summary.Reads as skelfora-summary
use Rattle.port.proofs.tallies.skelfora_tally.Reads as skelfora-tally
use Rattle.port.proofs.tallies.skelfora_tally_join.Reads as skelfora-tally-join
use Rattle.port.proofs.tallies.skelfora_tally_relations.Reads as skelfora-tally-relations
use Rattle.port.proofs.skelfora_rewrite.Reads as skelfora-rewrite
use Rattle.port.proofs.skelfora_replay.Reads as skelfora-replay
use Rattle.port.proofs.skelfora_step.Reads as skelfora-step
use Rattle.port.proofs.skelfora_opening.Reads as skelfora-opening
use Rattle.port.proofs.way_out.skelfora_finish.Reads as skelfora-finish
use Rattle.port.proofs.way_out.skelfora_desk_finish.Reads as skelfora-desk-finish
use Rattle.port.proofs.way_out.skelfora_shut_by.Reads as skelfora-shut-by
use Rattle.port.proofs.marked.skelfora_marks.Reads as skelfora-marks
use Rattle.port.proofs.marked.skelfora_marks_text.Reads as skelfora-marks-text
use Rattle.port.proofs.marked.skelfora_guesses_text.Reads as skelfora-guesses-text
use Rattle.port.proofs.marked.skelfora_replays.Reads as skelfora-replays
use Rattle.port.proofs.classroom.skelfora_plain_step.Reads as skelfora-plain-step
use Rattle.port.proofs.classroom.skelfora_plain_accepting.Reads as skelfora-plain-accepting
use Rattle.port.proofs.classroom.skelfora_plain_replay.Reads as skelfora-plain-replay
use Rattle.port.proofs.classroom.skelfora_fill.Reads as skelfora-fill
use Rattle.port.proofs.call_desk.skelfora_desk_open.Reads as skelfora-desk-open
use Rattle.port.proofs.call_desk.skelfora_desk_step.Reads as skelfora-desk-step
use Rattle.port.proofs.call_desk.skelfora_desk_close.Reads as skelfora-desk-close
use Rattle.promises.proofs.replayed.replay_own.Reads as replay-own
use Rattle.promises.proofs.replayed.replay_none.Reads as replay-none
use Rattle.promises.proofs.returned.graph_back.Reads as graph-back_lem
use Rattle.promises.proofs.returned.file_back.Reads as file-back_lem
use Rattle.plain.proofs.execute.execute.Reads as plain-execute
use Rattle.engine.proofs.execute.execute.Reads as execute
use Rattle.engine.proofs.execute.executed.Reads as executed
use Rattle.calllog.proofs.reader.open.Reads as reader-open
use Rattle.calllog.proofs.reader.trace.Reads as reader-trace
use Rattle.calllog.proofs.reader.next_trace.Reads as next-trace
use Rattle.calllog.proofs.reader.read_trace.Reads as read-trace
use Rattle.calllog.proofs.reader.read_next.Reads as read-next

module _ {K : Type 0} {A : K → Type 0} {R : K → Type 0} {E : K → Type 0} (Post : (κ : K) → A κ → R κ → E κ → Type 0) where
  -- two calls with the same arguments give the same
  abbrev Once : Type 0
  Once = (κ : K) (a : A κ) (r r' : R κ) (s s' : E κ) → Post κ a r s → Post κ a r' s' → r ≡ r'

  -- where what is given is a part of what was lent: it shows the same
  module _ {X : Type 0} (shown : (κ : K) → R κ → X) where
    abbrev OnceSeen : Type 0
    OnceSeen = (κ : K) (a : A κ) (r r' : R κ) (s s' : E κ) → Post κ a r s → Post κ a r' s' → shown κ r ≡ shown κ r'

  module _ {X : Type 0} (left : (κ : K) → E κ → X) where
    -- where something is lent by `&mut` and nothing is given: they leave the same
    abbrev OnceLeft : Type 0
    OnceLeft = (κ : K) (a : A κ) (r r' : R κ) (s s' : E κ) → Post κ a r s → Post κ a r' s' → left κ s ≡ left κ s'

    -- and both
    abbrev OnceLent : Type 0
    OnceLent = (κ : K) (a : A κ) (r r' : R κ) (s s' : E κ) → Post κ a r s → Post κ a r' s' → (r ≡ r') × (left κ s ≡ left κ s')

-- ---- sets: activities and places

pub ActivityPartialEq-eq-once : Once ActivityPartialEq-eq.Post
ActivityPartialEq-eq-once κ a r r' s s' h h' = h ∙ sym h'

pub ActivityPartialOrd-partial-cmp-once : Once ActivityPartialOrd-partial-cmp.Post
ActivityPartialOrd-partial-cmp-once κ a r r' s s' h h' = h ∙ sym h'

pub ActivityOrd-cmp-once : Once ActivityOrd-cmp.Post
ActivityOrd-cmp-once κ a r r' s s' h h' = h ∙ sym h'

pub PlacePartialEq-eq-once : Once PlacePartialEq-eq.Post
PlacePartialEq-eq-once κ a r r' s s' h h' = h ∙ sym h'

pub PlacePartialOrd-partial-cmp-once : Once PlacePartialOrd-partial-cmp.Post
PlacePartialOrd-partial-cmp-once κ a r r' s s' h h' = h ∙ sym h'

pub PlaceOrd-cmp-once : Once PlaceOrd-cmp.Post
PlaceOrd-cmp-once κ a r r' s s' h h' = h ∙ sym h'

-- ---- sets: answers

pub Answer-number-once : Once Answer-number.Post
Answer-number-once κ a r r' s s' h h' = h ∙ sym h'

pub Answer-blocker-once : Once Answer-blocker.Post
Answer-blocker-once κ a r r' s s' h h' = h ∙ sym h'

pub Answer-is-done-once : Once Answer-is-done.Post
Answer-is-done-once κ a r r' s s' h h' = h ∙ sym h'

-- ---- sets: sets, by their members

pub SetPartialEq-eq-once : Once SetPartialEq-eq.Post
SetPartialEq-eq-once κ a r r' s s' h h' = h ∙ sym h'

pub Set-one-once : Once Set-one.Post
Set-one-once κ a r r' s s' h h' = h ∙ sym h'

pub Set-one-if-once : Once Set-one-if.Post
Set-one-if-once κ a r r' s s' h h' = h ∙ sym h'

pub Set-below-once : Once Set-below.Post
Set-below-once κ a r r' s s' h h' = h ∙ sym h'

pub Set-has-once : Once Set-has.Post
Set-has-once κ a r r' s s' h h' = h ∙ sym h'

pub Set-union-once : Once Set-union.Post
Set-union-once κ a r r' s s' h h' = h ∙ sym h'

pub Set-intersection-once : Once Set-intersection.Post
Set-intersection-once κ a r r' s s' h h' = h ∙ sym h'

pub Set-difference-once : Once Set-difference.Post
Set-difference-once κ a r r' s s' h h' = h ∙ sym h'

pub Set-complement-once : Once Set-complement.Post
Set-complement-once κ a r r' s s' h h' = h ∙ sym h'

pub Set-is-empty-once : Once Set-is-empty.Post
Set-is-empty-once κ a r r' s s' h h' = h ∙ sym h'

pub Set-is-within-once : Once Set-is-within.Post
Set-is-within-once κ a r r' s s' h h' = h ∙ sym h'

pub Set-count-once : Once Set-count.Post
Set-count-once κ a r r' s s' h h' = h ∙ sym h'

-- an activity is its number
pub Set-least-once : Once Set-least.Post
Set-least-once κ a r r' s s' h h' = ap {B = Activity} (λ n. record { 0 = n }) (h ∙ sym h')

pub Set-without-least-once : Once Set-without-least.Post
Set-without-least-once κ a r r' s s' h h' = h ∙ sym h'

pub Set-members-once : Once Set-members.Post
Set-members-once κ a r r' s s' h h' = ap {B = Members} (λ n. record { rest = n }) (h ∙ sym h')

pub MembersIterator-next-once : OnceLent MembersIterator-next.Post (λ κ s. s.0.now)
MembersIterator-next-once κ a r r' s s' h h' = gives-once a.0.now r r' s.0.now s'.0.now h.0 h'.0

-- the first two of its clauses are those of its trait, the third is the whole
pub MembersIterator-size-hint-once : Once MembersIterator-size-hint.Post
MembersIterator-size-hint-once κ a r r' s s' h h' = h.1.1 ∙ sym h'.1.1

pub Set-next-once : Once Set-next.Post
Set-next-once κ a r r' s s' h h' = ap {B = Activity} (λ n. record { 0 = n }) (h ∙ sym h')

pub Set-end-once : Once Set-end.Post
Set-end-once κ a r r' s s' h h' = h ∙ sym h'

-- ---- sets: rows

pub empty-once : Once empty.Post
empty-once κ a r r' s s' h h' = h ∙ sym h'

pub row-once : Once row.Post
row-once κ a r r' s s' h h' = h ∙ sym h'

pub put-once : OnceLeft put.Post (λ κ s. s.0.now)
put-once κ a r r' s s' h h' = h ∙ sym h'

pub join-once : OnceLeft join.Post (λ κ s. s.0.now)
join-once κ a r r' s s' h h' = h ∙ sym h'

pub lose-once : OnceLeft lose.Post (λ κ s. s.0.now)
lose-once κ a r r' s s' h h' = h ∙ sym h'

pub turned-once : Once turned.Post
turned-once κ a r r' s s' h h' = h ∙ sym h'

-- ---- sets: tables

pub tables-row-once : Once tables-row.Post
tables-row-once κ a r r' s s' h h' = h ∙ sym h'

pub tables-put-once : OnceLeft tables-put.Post (λ κ s. s.0.now)
tables-put-once κ a r r' s s' h h' = h ∙ sym h'

pub tables-join-once : OnceLeft tables-join.Post (λ κ s. s.0.now)
tables-join-once κ a r r' s s' h h' = h ∙ sym h'

pub tables-put-rows-once : OnceLeft tables-put-rows.Post (λ κ s. s.0.now)
tables-put-rows-once κ a r r' s s' h h' = h ∙ sym h'

pub tables-taken-once : Once tables-taken.Post
tables-taken-once κ a r r' s s' h h' = h ∙ sym h'

-- ---- octets

pub too-few-once : Once too-few_lem.Post
too-few-once κ a r r' s s' h h' = h ∙ sym h'

pub opens-with-once : Once opens-with.Post
opens-with-once κ a r r' s s' h h' = h ∙ sym h'

pub byte-at-once : Once byte_at.Post
byte-at-once κ a r r' s s' h h' = h ∙ sym h'

pub number-at-once : Once number_at.Post
number-at-once κ a r r' s s' h h' = h ∙ sym h'

pub put-number-once : OnceLeft put-number.Post (λ κ s. s.0.now)
put-number-once κ a r r' s s' h h' = h ∙ sym h'

pub set-at-once : Once set_at.Post
set-at-once κ a r r' s s' h h' = h ∙ sym h'

pub put-set-once : OnceLeft put-set.Post (λ κ s. s.0.now)
put-set-once κ a r r' s s' h h' = h ∙ sym h'

pub set-length-once : Once set-length.Post
set-length-once κ a r r' s s' h h' = h ∙ sym h'

pub edition-for-once : Once edition-for.Post
edition-for-once κ a r r' s s' h h' = h ∙ sym h'

pub edition-in-once : Once edition-in.Post
edition-in-once κ a r r' s s' h h' = h ∙ sym h'

pub opens-file-once : Once opens-file.Post
opens-file-once κ a r r' s s' h h' = h ∙ sym h'

pub is-beyond-once : Once is-beyond.Post
is-beyond-once κ a r r' s s' h h' = h ∙ sym h'

-- ---- engine

pub StatePartialEq-eq-once : Once StatePartialEq-eq.Post
StatePartialEq-eq-once κ a r r' s s' h h' = h ∙ sym h'

pub MarkingPartialEq-eq-once : Once MarkingPartialEq-eq.Post
MarkingPartialEq-eq-once κ a r r' s s' h h' = h ∙ sym h'

pub State-of-once : Once State-of.Post
State-of-once κ a r r' s s' h h' = h ∙ sym h'

pub State-opening-once : Once State-opening.Post
State-opening-once κ a r r' s s' h h' = h ∙ sym h'

pub enabled-set-once : Once enabled-set.Post
enabled-set-once κ a r r' s s' h h' = h ∙ sym h'

pub marked-once : Once marked.Post
marked-once κ a r r' s s' h h' = h ∙ sym h'

pub is-true-once : Once is_true.Post
is-true-once κ a r r' s s' h h' = h ∙ sym h'

pub any-above-once : Once any-above.Post
any-above-once κ a r r' s s' h h' = h ∙ sym h'

pub found-once : Once found.Post
found-once κ a r r' s s' h h' = h ∙ sym h'

pub Graph-empty-once : Once Graph-empty.Post
Graph-empty-once κ a r r' s s' h h' = h ∙ sym h'

pub state-within-once : Once state-within.Post
state-within-once κ a r r' s s' h h' = h ∙ sym h'

pub rows-within-once : Once rows-within_lem.Post
rows-within-once κ a r r' s s' h h' = h ∙ sym h'

pub head-within-once : Once head-within.Post
head-within-once κ a r r' s s' h h' = h ∙ sym h'

pub judge-for-once : Once judge-for.Post
judge-for-once κ a r r' s s' h h' = h ∙ sym h'

pub judge-marking-once : Once judge-marking.Post
judge-marking-once κ a r r' s s' h h' = h ∙ sym h'

pub judge-beside-once : Once judge-beside.Post
judge-beside-once κ a r r' s s' h h' = h ∙ sym h'

pub ask-once : Once ask.Post
ask-once κ a r r' s s' h h' = h ∙ sym h'

pub next-once : Once next.Post
next-once κ a r r' s s' h h' = h ∙ sym h'

pub is-accepting-once : Once is-accepting.Post
is-accepting-once κ a r r' s s' h h' = h ∙ sym h'

pub ask-judged-once : Once ask-judged.Post
ask-judged-once κ a r r' s s' h h' = h ∙ sym h'

pub ask-on-once : Once ask-on.Post
ask-on-once κ a r r' s s' h h' = h ∙ sym h'

pub enabled-once : Once enabled.Post
enabled-once κ a r r' s s' h h' = h ∙ sym h'

pub step-once : Once step.Post
step-once κ a r r' s s' h h' = h ∙ sym h'

pub step-on-once : Once step-on.Post
step-on-once κ a r r' s s' h h' = h ∙ sym h'

pub accepting-once : Once accepting.Post
accepting-once κ a r r' s s' h h' = h ∙ sym h'

pub execute-once : OnceLent execute.Post (λ κ s. s.1.0.now)
execute-once κ a r r' s s' h h' = (h.0 ∙ sym h'.0, h.1 ∙ sym h'.1)

pub executed-once : Once executed.Post
executed-once κ a r r' s s' h h' = h ∙ sym h'

pub walk-once : Once walk.Post
walk-once κ a r r' s s' h h' = h ∙ sym h'

pub walk-in-once : Once walk-in.Post
walk-in-once κ a r r' s s' h h' = h ∙ sym h'

pub run-once : Once run.Post
run-once κ a r r' s s' h h' = h ∙ sym h'

pub replay-once : Once replay.Post
replay-once κ a r r' s s' h h' = h ∙ sym h'

-- ---- plain

pub plain-judge-for-once : Once plain-judge-for.Post
plain-judge-for-once κ a r r' s s' h h' = h ∙ sym h'

pub plain-marked-once : Once plain-marked.Post
plain-marked-once κ a r r' s s' h h' = h ∙ sym h'

pub plain-enabled-once : Once plain-enabled.Post
plain-enabled-once κ a r r' s s' h h' = h ∙ sym h'

pub plain-step-once : Once plain_step.Post
plain-step-once κ a r r' s s' h h' = h ∙ sym h'

pub plain-execute-once : OnceLent plain-execute.Post (λ κ s. s.1.0.now)
plain-execute-once κ a r r' s s' h h' = (h.0 ∙ sym h'.0, h.1 ∙ sym h'.1)

pub plain-accepting-once : Once plain-accepting.Post
plain-accepting-once κ a r r' s s' h h' = h ∙ sym h'

pub plain-replay-once : Once plain-replay.Post
plain-replay-once κ a r r' s s' h h' = h ∙ sym h'

pub plain-fill-once : OnceLent plain-fill.Post (λ κ s. s.1.1.0.now)
plain-fill-once κ a r r' s s' h h' = (h.0 ∙ sym h'.0, h.1 ∙ sym h'.1)

-- ---- finish

pub way-out-once : Once way_out.Post
way-out-once κ a r r' s s' h h' = h ∙ sym h'

pub way-out-on-once : Once way-out-on.Post
way-out-on-once κ a r r' s s' h h' = h ∙ sym h'

pub finish-once : Once finish.Post
finish-once κ a r r' s s' h h' = h ∙ sym h'

pub shut-by-once : Once shut_by.Post
shut-by-once κ a r r' s s' h h' = ap {B = Activity} (λ n. record { 0 = n }) (h ∙ sym h')

-- ---- calllog

pub judge-log-once : Once judge-log.Post
judge-log-once κ a r r' s s' h h' = h ∙ sym h'

pub all-below-once : Once all-below_lem.Post
all-below-once κ a r r' s s' h h' = h ∙ sym h'

pub trace-count-once : Once trace-count.Post
trace-count-once κ a r r' s s' h h' = h ∙ sym h'

pub trace-part-once : Once trace-part.Post
trace-part-once κ a r r' s s' h h' = h ∙ sym h'

pub trace-at-once : OnceSeen trace-at.Post (λ κ r. r.now)
trace-at-once κ a r r' s s' h h' = h ∙ sym h'

pub find-trace-once : Once find-trace.Post
find-trace-once κ a r r' s s' h h' = h ∙ sym h'

pub log-ask-once : Once log-ask.Post
log-ask-once κ a r r' s s' h h' = h ∙ sym h'

pub open-once : Once reader-open.Post
open-once κ a r r' s s' h h' = h ∙ sym h'

pub trace-once : OnceLent reader-trace.Post (λ κ s. s.0.now)
trace-once κ a r r' s s' h h' = (h.0 ∙ sym h'.0, h.1 ∙ sym h'.1)

pub next-trace-once : OnceLent next-trace.Post (λ κ s. s.0.now)
next-trace-once κ a r r' s s' h h' = (h.0 ∙ sym h'.0, h.1 ∙ sym h'.1)

pub read-trace-once : Once read-trace.Post
read-trace-once κ a r r' s s' h h' = h ∙ sym h'

pub read-next-once : Once read-next.Post
read-next-once κ a r r' s s' h h' = h ∙ sym h'

-- ---- graphfile

pub read-once : Once read.Post
read-once κ a r r' s s' h h' = h ∙ sym h'

pub read-bare-once : OnceLent read-bare.Post (λ κ s. s.1.0.now)
read-bare-once κ a r r' s s' h h' = (h.0 ∙ sym h'.0, h.1 ∙ sym h'.1)

pub write-once : OnceLent write.Post (λ κ s. s.1.0.now)
write-once κ a r r' s s' h h' = (h.0 ∙ sym h'.0, h.1 ∙ sym h'.1)

pub write-unjudged-once : OnceLent write-unjudged.Post (λ κ s. s.1.1.0.now)
write-unjudged-once κ a r r' s s' h h' = (h.0 ∙ sym h'.0, h.1 ∙ sym h'.1)

pub read-head-once : Once read_head.Post
read-head-once κ a r r' s s' h h' = h ∙ sym h'

pub read-marking-at-once : Once read-marking-at.Post
read-marking-at-once κ a r r' s s' h h' = h ∙ sym h'

pub write-marking-at-once : OnceLeft write-marking-at.Post (λ κ s. s.1.0.now)
write-marking-at-once κ a r r' s s' h h' = h ∙ sym h'

pub read-marking-once : Once read-marking.Post
read-marking-once κ a r r' s s' h h' = h ∙ sym h'

pub write-marking-once : OnceLeft write-marking.Post (λ κ s. s.1.0.now)
write-marking-once κ a r r' s s' h h' = h ∙ sym h'

pub marking-length-once : Once marking-length.Post
marking-length-once κ a r r' s s' h h' = h ∙ sym h'

pub head-length-once : Once head-length.Post
head-length-once κ a r r' s s' h h' = h ∙ sym h'

pub is-wide-once : Once is_is_wide.Post
is-wide-once κ a r r' s s' h h' = h ∙ sym h'

pub wide-for-once : Once wide-for.Post
wide-for-once κ a r r' s s' h h' = h ∙ sym h'

-- ---- desk

pub desk-judge-place-once : Once desk-judge-place.Post
desk-judge-place-once κ a r r' s s' h h' = h ∙ sym h'

pub desk-table-length-once : Once desk-table-length.Post
desk-table-length-once κ a r r' s s' h h' = h ∙ sym h'

pub desk-open-once : OnceLent desk-open.Post (λ κ s. s.1.1.0.now)
desk-open-once κ a r r' s s' h h' = (h.0 ∙ sym h'.0, h.1 ∙ sym h'.1)

pub desk-step-once : OnceLent desk-step.Post (λ κ s. s.1.1.0.now)
desk-step-once κ a r r' s s' h h' = (h.0 ∙ sym h'.0, h.1 ∙ sym h'.1)

pub desk-close-once : OnceLent desk-close.Post (λ κ s. s.1.1.0.now)
desk-close-once κ a r r' s s' h h' = (h.0 ∙ sym h'.0, h.1 ∙ sym h'.1)

pub desk-step-on-once : OnceLent desk-step-on.Post (λ κ s. s.1.1.0.now)
desk-step-on-once κ a r r' s s' h h' = (h.0 ∙ sym h'.0, h.1 ∙ sym h'.1)

pub desk-close-on-once : OnceLent desk-close-on.Post (λ κ s. s.1.1.0.now)
desk-close-on-once κ a r r' s s' h h' = (h.0 ∙ sym h'.0, h.1 ∙ sym h'.1)

pub desk-finish-once : Once desk-finish.Post
desk-finish-once κ a r r' s s' h h' = h ∙ sym h'

pub desk-finish-on-once : Once desk-finish-on.Post
desk-finish-on-once κ a r r' s s' h h' = h ∙ sym h'

-- ---- steps

pub unbroken-once : Once unbroken.Post
unbroken-once κ a r r' s s' h h' = h ∙ sym h'

pub excluded-by-once : Once excluded-by.Post
excluded-by-once κ a r r' s s' h h' = h ∙ sym h'

pub absent-once : Once absent.Post
absent-once κ a r r' s s' h h' = h ∙ sym h'

pub united-once : Once united.Post
united-once κ a r r' s s' h h' = h ∙ sym h'

pub union-of-once : Once union-of.Post
union-of-once κ a r r' s s' h h' = h ∙ sym h'

pub waited-once : Once waited.Post
waited-once κ a r r' s s' h h' = h ∙ sym h'

pub reduced-once : Once reduced.Post
reduced-once κ a r r' s s' h h' = h ∙ sym h'

-- ---- tally

pub log-empty-once : Once log-empty.Post
log-empty-once κ a r r' s s' h h' = h ∙ sym h'

pub in-form-once : Once in-form.Post
in-form-once κ a r r' s s' h h' = h ∙ sym h'

pub holds-once : Once holds.Post
holds-once κ a r r' s s' h h' = h ∙ sym h'

pub log-note-traces-in-once : OnceLent log-note-traces-in.Post (λ κ s. s.1.1.1.0.now)
log-note-traces-in-once κ a r r' s s' h h' = (h.0 ∙ sym h'.0, h.1 ∙ sym h'.1)

-- ---- miner

pub mine-once : Once mine.Post
mine-once κ a r r' s s' h h' = h ∙ sym h'

pub mine-into-once : OnceLent mine-into.Post (λ κ s. s.1.1.0.now)
mine-into-once κ a r r' s s' h h' = (h.0 ∙ sym h'.0, h.1 ∙ sym h'.1)

pub conditions-eight-once : Once conditions-eight.Post
conditions-eight-once κ a r r' s s' h h' = h ∙ sym h'

pub responses-eight-once : Once responses-eight.Post
responses-eight-once κ a r r' s s' h h' = h ∙ sym h'

pub excluded-five-once : Once excluded-five.Post
excluded-five-once κ a r r' s s' h h' = h ∙ sym h'

pub excludes-six-once : Once excludes-six.Post
excludes-six-once κ a r r' s s' h h' = h ∙ sym h'

pub last-places-once : OnceLent last-places.Post (λ κ s. s.1.0.now)
last-places-once κ a r r' s s' h h' = (h.0 ∙ sym h'.0, h.1 ∙ sym h'.1)

-- ---- months

pub months-fill-once : OnceLent months-fill.Post (λ κ s. s.1.0.now)
months-fill-once κ a r r' s s' h h' = (h.0 ∙ sym h'.0, h.1 ∙ sym h'.1)

pub months-join-once : OnceLent months-join.Post (λ κ s. s.0.now)
months-join-once κ a r r' s s' h h' = (h.0 ∙ sym h'.0, h.1 ∙ sym h'.1)

pub months-relations-once : Once months-relations.Post
months-relations-once κ a r r' s s' h h' = h ∙ sym h'

-- ---- marks

pub Counts-precision-once : Once Counts-precision.Post
Counts-precision-once κ a r r' s s' h h' = h ∙ sym h'

pub Counts-recall-once : Once Counts-recall.Post
Counts-recall-once κ a r r' s s' h h' = h ∙ sym h'

pub Counts-accuracy-once : Once Counts-accuracy.Post
Counts-accuracy-once κ a r r' s s' h h' = h ∙ sym h'

pub judge-labels-once : Once judge-labels.Post
judge-labels-once κ a r r' s s' h h' = h ∙ sym h'

pub mark-once : Once mark.Post
mark-once κ a r r' s s' h h' = h ∙ sym h'

pub mark-guesses-once : Once mark-guesses.Post
mark-guesses-once κ a r r' s s' h h' = h ∙ sym h'

pub write-replays-once : OnceLent write-replays.Post (λ κ s. s.1.1.1.0.now)
write-replays-once κ a r r' s s' h h' = (h.0 ∙ sym h'.0, h.1 ∙ sym h'.1)

-- ---- report

pub choose-once : Once choose.Post
choose-once κ a r r' s s' h h' = h ∙ sym h'

pub write-refused-once : OnceLent write-refused.Post (λ κ s. s.1.0.now)
write-refused-once κ a r r' s s' h h' = (h.0 ∙ sym h'.0, h.1 ∙ sym h'.1)

pub write-marks-once : OnceLent write-marks.Post (λ κ s. s.1.0.now)
write-marks-once κ a r r' s s' h h' = (h.0 ∙ sym h'.0, h.1 ∙ sym h'.1)

pub write-summary-once : OnceLent write-summary.Post (λ κ s. s.1.1.0.now)
write-summary-once κ a r r' s s' h h' = (h.0 ∙ sym h'.0, h.1 ∙ sym h'.1)

pub write-listing-once : OnceLent write-listing.Post (λ κ s. s.1.1.0.now)
write-listing-once κ a r r' s s' h h' = (h.0 ∙ sym h'.0, h.1 ∙ sym h'.1)

-- ---- port

pub skelfora-mine-once : OnceLent skelfora-mine.Post (λ κ s. s.1.1.0.now)
skelfora-mine-once κ a r r' s s' h h' = (h.0 ∙ sym h'.0, h.1 ∙ sym h'.1)

pub skelfora-listing-once : OnceLent skelfora-listing.Post (λ κ s. s.1.1.0.now)
skelfora-listing-once κ a r r' s s' h h' = (h.0 ∙ sym h'.0, h.1 ∙ sym h'.1)

pub skelfora-summary-once : OnceLent skelfora-summary.Post (λ κ s. s.1.1.0.now)
skelfora-summary-once κ a r r' s s' h h' = (h.0 ∙ sym h'.0, h.1 ∙ sym h'.1)

pub skelfora-tally-once : OnceLent skelfora-tally.Post (λ κ s. s.1.0.now)
skelfora-tally-once κ a r r' s s' h h' = (h.0 ∙ sym h'.0, h.1 ∙ sym h'.1)

pub skelfora-tally-join-once : OnceLent skelfora-tally-join.Post (λ κ s. s.0.now)
skelfora-tally-join-once κ a r r' s s' h h' = (h.0 ∙ sym h'.0, h.1 ∙ sym h'.1)

pub skelfora-tally-relations-once : OnceLent skelfora-tally-relations.Post (λ κ s. s.1.1.0.now)
skelfora-tally-relations-once κ a r r' s s' h h' = (h.0 ∙ sym h'.0, h.1 ∙ sym h'.1)

pub skelfora-rewrite-once : OnceLent skelfora-rewrite.Post (λ κ s. s.1.0.now)
skelfora-rewrite-once κ a r r' s s' h h' = (h.0 ∙ sym h'.0, h.1 ∙ sym h'.1)

pub skelfora-replay-once : Once skelfora-replay.Post
skelfora-replay-once κ a r r' s s' h h' = h ∙ sym h'

pub skelfora-step-once : OnceLent skelfora-step.Post (λ κ s. s.1.0.now)
skelfora-step-once κ a r r' s s' h h' = (h.0 ∙ sym h'.0, h.1 ∙ sym h'.1)

pub skelfora-opening-once : OnceLent skelfora-opening.Post (λ κ s. s.1.0.now)
skelfora-opening-once κ a r r' s s' h h' = (h.0 ∙ sym h'.0, h.1 ∙ sym h'.1)

pub skelfora-finish-once : OnceLent skelfora-finish.Post (λ κ s. s.1.1.0.now)
skelfora-finish-once κ a r r' s s' h h' = (h.0 ∙ sym h'.0, h.1 ∙ sym h'.1)

pub skelfora-desk-finish-once : OnceLent skelfora-desk-finish.Post (λ κ s. s.1.1.1.0.now)
skelfora-desk-finish-once κ a r r' s s' h h' = (h.0 ∙ sym h'.0, h.1 ∙ sym h'.1)

pub skelfora-shut-by-once : Once skelfora-shut-by.Post
skelfora-shut-by-once κ a r r' s s' h h' = h ∙ sym h'

pub skelfora-marks-once : Once skelfora-marks.Post
skelfora-marks-once κ a r r' s s' h h' = h ∙ sym h'

pub skelfora-marks-text-once : OnceLent skelfora-marks-text.Post (λ κ s. s.1.1.1.0.now)
skelfora-marks-text-once κ a r r' s s' h h' = (h.0 ∙ sym h'.0, h.1 ∙ sym h'.1)

pub skelfora-guesses-text-once : OnceLent skelfora-guesses-text.Post (λ κ s. s.1.1.0.now)
skelfora-guesses-text-once κ a r r' s s' h h' = (h.0 ∙ sym h'.0, h.1 ∙ sym h'.1)

pub skelfora-replays-once : OnceLent skelfora-replays.Post (λ κ s. s.1.1.0.now)
skelfora-replays-once κ a r r' s s' h h' = (h.0 ∙ sym h'.0, h.1 ∙ sym h'.1)

pub skelfora-plain-step-once : OnceLent skelfora-plain-step.Post (λ κ s. s.1.1.1.1.1.0.now)
skelfora-plain-step-once κ a r r' s s' h h' = (h.0 ∙ sym h'.0, h.1 ∙ sym h'.1)

pub skelfora-plain-accepting-once : Once skelfora-plain-accepting.Post
skelfora-plain-accepting-once κ a r r' s s' h h' = h ∙ sym h'

pub skelfora-plain-replay-once : Once skelfora-plain-replay.Post
skelfora-plain-replay-once κ a r r' s s' h h' = h ∙ sym h'

pub skelfora-fill-once : OnceLent skelfora-fill.Post (λ κ s. s.1.1.0.now)
skelfora-fill-once κ a r r' s s' h h' = (h.0 ∙ sym h'.0, h.1 ∙ sym h'.1)

pub skelfora-desk-open-once : OnceLent skelfora-desk-open.Post (λ κ s. s.1.0.now)
skelfora-desk-open-once κ a r r' s s' h h' = (h.0 ∙ sym h'.0, h.1 ∙ sym h'.1)

pub skelfora-desk-step-once : OnceLent skelfora-desk-step.Post (λ κ s. s.1.0.now)
skelfora-desk-step-once κ a r r' s s' h h' = (h.0 ∙ sym h'.0, h.1 ∙ sym h'.1)

pub skelfora-desk-close-once : OnceLent skelfora-desk-close.Post (λ κ s. s.1.0.now)
skelfora-desk-close-once κ a r r' s s' h h' = (h.0 ∙ sym h'.0, h.1 ∙ sym h'.1)

-- ---- promises; of replay_own's five equations the first fixes the result

pub replay-own-once : Once replay-own.Post
replay-own-once κ a r r' s s' h h' = h.0 ∙ sym h'.0

pub replay-none-once : Once replay-none.Post
replay-none-once κ a r r' s s' h h' = h ∙ sym h'

pub graph-back-once : OnceLent graph-back_lem.Post (λ κ s. s.1.0.now)
graph-back-once κ a r r' s s' h h' = (h.0 ∙ sym h'.0, h.1 ∙ sym h'.1)

pub file-back-once : OnceLent file-back_lem.Post (λ κ s. s.1.0.now)
file-back-once κ a r r' s s' h h' = (h.0 ∙ sym h'.0, h.1 ∙ sym h'.1)
